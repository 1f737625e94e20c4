-- The totals while a share is lessened.
use Rattle.std.proofs.Common.{◌≡◌, ℕ, ◌<◌, List, [], length, map, slice_index_or, slice_set, ap, sym, ◌∙◌, Vec, Global}
use Rattle.std.proofs.lemmas.List.{map-set, get_or-map}
use Rattle.mh_ledger.specs.declared.old_hits.OldHits.{OldHits}
use Rattle.mh_ledger.specs.Ledgers.{added, share_of}
use Rattle.mh_ledger.specs.Laws.Renewing.{lessened, the_totals}
use Rattle.mh_ledger.specs.Renewals.{left_of}
use Rattle.mh_ledger.proofs.Taken.{items_of, state_of}

-- the share that is read
pub read_share : (limit : ℕ) (total : List ℕ) (shares : List (Vec ℕ Global)) (w : ℕ) (old : Vec ℕ Global) → w < length shares → old ≡ slice_index_or shares w old
    → share_of (state_of limit total shares) w ≡ old.items
read_share limit total shares w old inside read = get_or-map items_of shares w old [] inside ∙ ap items_of (sym read)

-- the share that is written
pub written_share : (h : OldHits) (limit : ℕ) (total : List ℕ) (shares : List (Vec ℕ Global)) (w : ℕ) (old new : Vec ℕ Global) → w < length shares → old ≡ slice_index_or shares w old
    → new.items ≡ map (left_of h) old.items → map items_of (slice_set shares w new) ≡ slice_set (map items_of shares) w (map (left_of h) (share_of (state_of limit total shares) w))
written_share h limit total shares w old new inside read left =
    map-set items_of shares w new ∙ ap (slice_set (map items_of shares) w) (left ∙ ap (map (left_of h)) (sym (read_share limit total shares w old inside read)))

-- both
pub lessened_view : (h : OldHits) (limit : ℕ) (total rest total' more : List ℕ) (shares : List (Vec ℕ Global)) (w : ℕ) (old new : Vec ℕ Global) → w < length shares → old ≡ slice_index_or shares w old
    → new.items ≡ map (left_of h) old.items → more ≡ new.items → total' ≡ added rest more
    → state_of limit total' (slice_set shares w new) ≡ lessened h (state_of limit total shares) w (added rest (map (left_of h) (share_of (state_of limit total shares) w)))
lessened_view h limit total rest total' more shares w old new inside read left same sum =
    let t = state_of limit total shares in
    let all : new.items ≡ map (left_of h) (share_of t w) = left ∙ ap (map (left_of h)) (sym (read_share limit total shares w old inside read)) in
    ap (λ (rows : List (List ℕ)). the_totals limit total' rows) (written_share h limit total shares w old new inside read left)
    ∙ ap (λ (sums : List ℕ). the_totals limit sums (slice_set t.shares w (map (left_of h) (share_of t w)))) (sum ∙ ap (added rest) (same ∙ all))
