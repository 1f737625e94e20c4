-- The links that a call hits, and the sums of a worker's calls: the counters of an inline cache's entries (Hölzle, Chambers, Ungar 1991).
use Rattle.std.specs.Prelude.{◌≡◌, ℕ, ◌+◌, ◌<◌, ◌==◌, Bool, true, false, ◌&&◌, ◌||◌, Option, Some, None, List, [], ◌∷◌, map, length, slice_index_or, if◌then◌else◌}
use Rattle.mh_type.specs.declared.value.Value.{Value}
use Rattle.mh_type.specs.declared.value.Value.TheVariants.{Boolean}
use Rattle.mh_site.specs.Defined.{DefinitionData, site_at}
use Rattle.mh_site.specs.Links.{links, link_at, site_of}
use Rattle.mh_type.specs.Values.{same_value}
use Rattle.mh_core.specs.declared.event.Event.{Event}
use Rattle.mh_core.specs.declared.event.Event.TheVariants.{Call, Flush, Target, Invalidate, Snapshot, Publish, Install}
use Rattle.mh_core.specs.Records.{numbers, hits_in}

-- the argument at a position; a site without a key position has no link that asks for it
abbrev pub argument_at : Option ℕ → List Value → Value
argument_at (Some q) a = slice_index_or a q (Boolean false)
argument_at None a = Boolean false

-- a call of the site hits the site's link whose key is the argument at the key position
abbrev pub hits : DefinitionData → ℕ → List Value → ℕ → Bool
hits d s a j = (site_of d j == s) && same_value (link_at d j).1.when (argument_at (site_at d s).key a)

-- the link that a call hits, or none: the one of its site whose key is the argument at the key position
abbrev pub IsHitLink : DefinitionData → ℕ → List Value → Option ℕ → Type 0
IsHitLink d s a (Some j) = (j < length (links d)) × ((hits d s a j ≡ true) × ((i : ℕ) → hits d s a i ≡ true → i ≡ j))
IsHitLink d s a None = (i : ℕ) → hits d s a i ≡ false

-- the hits of a link by a worker's calls since its last flush
abbrev pub unflushed : DefinitionData → List Event → ℕ → ℕ → ℕ
unflushed d [] w j = 0
unflushed d (Call v s a ∷ h) w j = if (v == w) && hits d s a j then unflushed d h w j + 1 else unflushed d h w j
unflushed d (Flush v ∷ h) w j = if v == w then 0 else unflushed d h w j
unflushed d (Target s tree ∷ h) w j = unflushed d h w j
unflushed d (Invalidate points ∷ h) w j = unflushed d h w j
unflushed d (Snapshot ∷ h) w j = unflushed d h w j
unflushed d (Publish n plan ∷ h) w j = unflushed d h w j
unflushed d (Install m ∷ h) w j = unflushed d h w j

-- the unflushed hits of each link, by number
abbrev pub unflushed_hits : DefinitionData → List Event → ℕ → List ℕ
unflushed_hits d h w = map (unflushed d h w) (numbers (length (links d)))

-- the hits that a worker's flush moves
abbrev pub moved : DefinitionData → List Event → ℕ → List (ℕ × ℕ)
moved d h w = hits_in (unflushed_hits d h w)

-- the calls that hit a link and are followed by a flush of the same worker, where `later` says whose flush comes after these events
abbrev pub flushed_calls : DefinitionData → (ℕ → Bool) → List Event → ℕ → ℕ
flushed_calls d later [] j = 0
flushed_calls d later (Call w s a ∷ h) j = if later w && hits d s a j then flushed_calls d later h j + 1 else flushed_calls d later h j
flushed_calls d later (Flush w ∷ h) j = flushed_calls d (λ v. (w == v) || later v) h j
flushed_calls d later (Target s tree ∷ h) j = flushed_calls d later h j
flushed_calls d later (Invalidate points ∷ h) j = flushed_calls d later h j
flushed_calls d later (Snapshot ∷ h) j = flushed_calls d later h j
flushed_calls d later (Publish n plan ∷ h) j = flushed_calls d later h j
flushed_calls d later (Install m ∷ h) j = flushed_calls d later h j

-- the hits of a link that count: those that are followed by a flush of the same worker
abbrev pub total_calls : DefinitionData → List Event → ℕ → ℕ
total_calls d h j = flushed_calls d (λ w. false) h j
