-- The headline of running threads follows from what an office and a pass keep.
use Rattle.std.proofs.Common.{◌≡◌, ◌⊎◌, inl, inr, ℕ, ◌+◌, ◌<◌, ◌≤◌, Bool, cond, List, [], ◌∷◌, ◌++◌, length, refl, ap, sym, subst, ◌∙◌, arith, length-append}
use Rattle.std.specs.Prelude.{reverse}
use Rattle.std.proofs.lemmas.Bool.{cases_eq, cases_lt, eq-eqb, ne_eqb}
use mathlib.Core.List.{IsPrefix}
use Rattle.mh_type.specs.declared.value.Value.{Value}
use Rattle.mh_tree.specs.Environment.{Environment}
use Rattle.mh_tree.specs.Handle.{TypedTree}
use Rattle.mh_tree.specs.Meaning.{mean}
use Rattle.mh_tree.specs.Sites.{with_sites}
use Rattle.mh_network.specs.Selection.{IsBest, member}
use Rattle.mh_cert.specs.Plans.{Matches}
use Rattle.mh_cert.specs.declared.plan.Plan.{Plan}
use Rattle.mh_site.specs.Defined.{DefinitionData}
use Rattle.mh_site.specs.Worlds as worlds
use Rattle.mh_site.specs.Worlds.{SiteState, state_at}
use Rattle.mh_site.specs.declared.control.Control.{Control}
use Rattle.mh_core.specs.Books.{BookState, IsBook, Legal}
use Rattle.mh_core.specs.Limits.{LimitsData}
use Rattle.mh_core.specs.Problems.{IsTaken, problem_after, problem_at}
use Rattle.mh_core.specs.Records as looking
use Rattle.mh_core.specs.Records.{base, environment_of_bases, snapshots, valid_points}
use Rattle.mh_core.specs.Replayed.{controls, world}
use Rattle.mh_core.specs.declared.record.Record.{Record}
use Rattle.mh_core.specs.declared.record.Record.TheVariants.{Flushed, Targeted, Invalidated, Snapped, Published, Installed}
use Rattle.mh_core.specs.Laws.{oldest_push}
use Rattle.mh_core.specs.Laws.Worlds.{bases_are, read, valid_is}
use Rattle.mh_live.specs.Calls.{AnswersBy}
use Rattle.mh_live.specs.Headline.{EachAnswerMeansItsTree, EachPublishedPlanIsBest, IsEarlier, IsLiveHeadline, meaning_after}
use Rattle.mh_live.specs.Offices.{list_of}
use Rattle.mh_live.specs.Rules.{world_after}
use Rattle.mh_live.specs.declared.pass.PassAnswer.{PassAnswer}
use Rattle.mh_live.proofs.Prefixes.{prefix_either, prefix_length, prefix_shorter, prefix_trans, prefix_whole}

-- ---- where an office stood
record StoodAt (d : DefinitionData) (r before : List Record) (seen : List Control) : Type 0 where
  past : List Record
  stood : IsEarlier past r
  forward : IsEarlier before past
  list : seen ≡ reverse (controls d past)

-- a record changes the world by one control, or not
control_of : (d : DefinitionData) (e : Record) (r : List Record) → (controls d (e ∷ r) ≡ controls d r) ⊎ ((c : Control) × (controls d (e ∷ r) ≡ c ∷ controls d r))
control_of d (Flushed w hits) r = inl refl
control_of d (Targeted s tree) r = inr (_, refl)
control_of d (Invalidated points) r = inr (_, refl)
control_of d Snapped r = inl refl
control_of d (Published n plan) r = inl refl
control_of d (Installed m) r = inr (_, refl)

one_more : (d : DefinitionData) (e : Record) (r before : List Record) (seen : List Control) → StoodAt d r before seen → StoodAt d (e ∷ r) before seen
one_more d e r before seen at = record { past = at.past; stood = (e ∷ at.stood.0, ap (λ (g : List Record). e ∷ g) at.stood.1); forward = at.forward; list = at.list }

stood_at : (d : DefinitionData) (newer before : List Record) (seen : List Control) → IsPrefix (reverse (controls d before)) seen
    → IsPrefix seen (reverse (controls d (newer ++ before))) → StoodAt d (newer ++ before) before seen
stood_at d [] before seen after within =
    record { past = before; stood = ([], refl); forward = ([], refl); list = prefix_whole seen (reverse (controls d before)) within (prefix_length (reverse (controls d before)) seen after) }
stood_at d (e ∷ newer) before seen after within =
    let r : List Record = newer ++ before in
    let old : List Control = reverse (controls d r) in
    elim (control_of d e r) [
      | inl same ↦ one_more d e r before seen (stood_at d newer before seen after (subst (λ (cs : List Control). IsPrefix seen (reverse cs)) same within))
      | inr more ↦
          let pushed : reverse (controls d (e ∷ r)) ≡ old ++ more.0 ∷ [] = ap reverse more.1 ∙ oldest_push more.0 (controls d r) in
          elim (cases_lt (length old) (length seen)) [
            | inl all ↦
                record {
                  past = e ∷ r;
                  stood = ([], refl);
                  forward = (e ∷ newer, refl);
                  list = prefix_whole seen (reverse (controls d (e ∷ r))) within (omega (arith, all, ap length pushed, length-append old (more.0 ∷ [])));
                }
            | inr less ↦
                one_more d e r before seen
                (stood_at d newer before seen after (prefix_shorter seen old (reverse (controls d (e ∷ r))) within (more.0 ∷ [], sym pushed) less))
          ]
    ]

-- ---- what a world means is what its records mean
same_environment : (d : DefinitionData) (r : List Record) → worlds.environment_of_bases (world d r) ≡ environment_of_bases d r
same_environment d r =
    ap (λ (v : List Bool). with_sites v (worlds.bases (world d r))) (valid_is d r)
    ∙ ap (λ (bs : List TypedTree). with_sites (valid_points d r) bs) (bases_are d r)

answered : (d : DefinitionData) (r : List Record) (seen : List Control) (s : ℕ) (a : List Value) (answer : PassAnswer) → s < length d.sites
    → seen ≡ reverse (controls d r) → AnswersBy d seen s a answer → answer.outcome ≡ meaning_after d r s a
answered d r seen s a answer inside list by =
    by.value
    ∙ (ap (λ (cs : List Control). mean (worlds.environment_of_bases (world_after d cs)) (state_at (world_after d cs) s).base.tree a) list
    ∙ (ap (λ (x : SiteState). mean (worlds.environment_of_bases (world d r)) x.base.tree a) (read d r s inside)
    ∙ ap (λ (v : Environment). mean v (base d r s).tree a) (same_environment d r)))

-- ---- where a snapshot was taken
record TakenAt (r : List Record) (n : ℕ) : Type 0 where
  since : List Record
  past : List Record
  taken : r ≡ since ++ Snapped ∷ past
  number : n ≡ snapshots past + 1
  same : looking.past r n ≡ past

later : (r : List Record) (n : ℕ) (e : Record) → looking.past (e ∷ r) n ≡ looking.past r n → TakenAt r n → TakenAt (e ∷ r) n
later r n e still at = record { since = e ∷ at.since; past = at.past; taken = ap (λ (g : List Record). e ∷ g) at.taken; number = at.number; same = still ∙ at.same }

taken_at : (r : List Record) (n : ℕ) → IsTaken r n → TakenAt r n
taken_at [] n taken = absurd (omega (arith, taken.0, taken.1))
taken_at (Flushed w hits ∷ r) n taken = later r n (Flushed w hits) refl (taken_at r n taken)
taken_at (Targeted s tree ∷ r) n taken = later r n (Targeted s tree) refl (taken_at r n taken)
taken_at (Invalidated points ∷ r) n taken = later r n (Invalidated points) refl (taken_at r n taken)
taken_at (Published m plan ∷ r) n taken = later r n (Published m plan) refl (taken_at r n taken)
taken_at (Installed m ∷ r) n taken = later r n (Installed m) refl (taken_at r n taken)
taken_at (Snapped ∷ r) n taken = elim (cases_eq (snapshots r + 1) n) [
  | inl own ↦ record { since = []; past = r; taken = refl; number = sym own; same = ap (λ (t : Bool). cond t r (looking.past r n)) (eq-eqb (snapshots r + 1) n own) }
  | inr other ↦
      later r n Snapped (ap (λ (t : Bool). cond t r (looking.past r n)) (ne_eqb (snapshots r + 1) n other))
      (taken_at r n (taken.0, omega (arith, taken.1, other)))
]

-- a published plan names a snapshot that was taken before
names_taken : (d : DefinitionData) (l : LimitsData) (newer before : List Record) (n : ℕ) (plan : Plan) → Legal d l (newer ++ Published n plan ∷ before) → IsTaken before n
names_taken d l [] before n plan legal = legal.0.1.1.0
names_taken d l (e ∷ newer) before n plan legal = names_taken d l newer before n plan legal.1

-- each published plan of a book matches, and is best
abbrev pub PlansMatch : BookState → Type 0
PlansMatch b = (newer before : List Record) → (n : ℕ) → (plan : Plan) → b.records ≡ newer ++ Published n plan ∷ before → Matches (problem_at b.definition before n) plan

abbrev pub PlansAreBest : BookState → Type 0
PlansAreBest b = (newer before : List Record) → (n : ℕ) → (plan : Plan) → b.records ≡ newer ++ Published n plan ∷ before → IsBest (problem_at b.definition before n) (member plan.links)

-- of two lists the one that is no longer begins the other
abbrev pub AreOfOne : List Control → List Control → Type 0
AreOfOne xs ys = (length xs ≤ length ys → IsPrefix xs ys) × (length ys ≤ length xs → IsPrefix ys xs)

module _ (b : BookState) (is : IsBook b) where
  abbrev d : DefinitionData
  d = b.definition

  abbrev r : List Record
  r = b.records

  plans_best : PlansMatch b → PlansAreBest b → EachPublishedPlanIsBest d r
  plans_best matching best newer before n plan split =
      let at = taken_at before n (names_taken d b.limits newer before n plan (subst (Legal d b.limits) split is.legal)) in
      record {
        since = at.since;
        past = at.past;
        taken = at.taken;
        number = at.number;
        matching = subst (λ (g : List Record). Matches (problem_after d g) plan) at.same (matching newer before n plan split);
        best = subst (λ (g : List Record). IsBest (problem_after d g) (member plan.links)) at.same (best newer before n plan split);
      }

  calls_mean : (published now : List Control) → published ≡ list_of b → IsPrefix published now ⊎ IsPrefix now published → EachAnswerMeansItsTree d r published now
  calls_mean published now shows either seen s a answer before by inside known short earlier began =
      let within : IsPrefix seen published = elim either [
        | inl longer ↦ prefix_shorter seen published now known longer (omega (arith, short, by.count))
        | inr shorter ↦ prefix_trans seen now published known shorter
      ] in
      let all : IsPrefix seen (reverse (controls d (earlier.0 ++ before))) = subst (λ (g : List Record). IsPrefix seen (reverse (controls d g))) earlier.1 (subst (IsPrefix seen) shows within) in
      let at = stood_at d earlier.0 before seen began all in
      record {
        past = at.past;
        stood = subst (IsEarlier at.past) (sym earlier.1) at.stood;
        forward = at.forward;
        list = at.list;
        outcome = answered d at.past seen s a answer inside at.list by;
      }

  headline_of_book : (e : DefinitionData) (published now : List Control) → d ≡ e → published ≡ list_of b → AreOfOne published now → PlansMatch b → PlansAreBest b
      → IsLiveHeadline e r published now
  headline_of_book e published now definition shows one matching best =
      subst (λ (x : DefinitionData). IsLiveHeadline x r published now) definition
      record {
        shows = shows;
        calls = calls_mean published now shows (prefix_either published now one.0 one.1);
        plans = plans_best matching best;
      }

-- by what calls lend of a book, of the list that passes read, and of what a pass has seen
pub headline : (e : DefinitionData) (b lent : BookState) (published shown now seen : List Control) → IsBook b → b.definition ≡ e → published ≡ list_of b
    → lent ≡ b → shown ≡ published → seen ≡ now → AreOfOne shown seen → PlansMatch lent → PlansAreBest lent → IsLiveHeadline e b.records published now
headline e b lent published shown now seen is definition shows book list known one matching best =
    headline_of_book b is e published now definition shows (subst (AreOfOne published) known (subst (λ (cs : List Control). AreOfOne cs seen) list one))
    (subst PlansMatch book matching) (subst PlansAreBest book best)
