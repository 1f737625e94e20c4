-- The text of a report: the state of each point, site and link, with a line for each.
use Rattle.std.specs.Prelude.{ℕ, ◌+◌, ◌^◌, ◌==◌, Bool, true, false, List, [], ◌∷◌, ◌++◌, codes, filter, length, map, slice_index_or, if◌then◌else◌}
use Rattle.std.specs.Fmt.{decimal}
use Rattle.std.specs.List.{flat_map}
use Rattle.mh_base.specs.Display.{numbers_text}
use Rattle.mh_type.specs.Display.{value_text}
use Rattle.mh_type.specs.Written.{written}
use Rattle.mh_network.specs.Selection.{member}
use Rattle.mh_site.specs.Defined.{DefinitionData, point_at, site_at}
use Rattle.mh_site.specs.Links.{links, link_at, site_of}
use Rattle.mh_core.specs.declared.record.Record.{Record}
use Rattle.mh_core.specs.Histories.{records}
use Rattle.mh_core.specs.Installations.{kept}
use Rattle.mh_core.specs.Legal.{MachineState}
use Rattle.mh_core.specs.Records.{numbers, is_valid, plans, snapshots, total, version}
use Rattle.mh_core.specs.State.{calls, gain, unflushed_of_all}

-- the greatest number of hits of a link that workers hold and have not flushed
abbrev pub most_unflushed : ℕ
most_unflushed = 2 ^ 126

-- a line of a report: its text, and the byte 0x0A
abbrev pub ended : List ℕ → List ℕ
ended text = text ++ 10 ∷ []

abbrev pub validity_text : Bool → List ℕ
validity_text true = codes "valid"
validity_text false = codes "invalid"

abbrev pub yes_text : Bool → List ℕ
yes_text true = codes "yes"
yes_text false = codes "no"

-- the charge of a link, which is omitted if it is 0
abbrev pub charge_text : ℕ → List ℕ
charge_text n = if n == 0 then [] else codes " charge " ++ decimal n

-- the links that need a point, by number
abbrev pub links_needing : DefinitionData → ℕ → List ℕ
links_needing d p = filter (λ j. member (link_at d j).1.needs p) (numbers (length (links d)))

-- a point after these records: `point a cost 5 valid links 0,1`
abbrev pub point_text : DefinitionData → List Record → ℕ → List ℕ
point_text d r p =
    codes "point " ++ ((point_at d p).name ++ (codes " cost " ++ (decimal (point_at d p).cost ++ (codes " "
    ++ (validity_text (is_valid r p) ++ (codes " links " ++ numbers_text (links_needing d p)))))))

-- a site: the number of its retargetings, and of the links that it holds: `site f type (int)int retargeted 0 installed 1`
abbrev pub site_text : DefinitionData → List Record → ℕ → List ℕ
site_text d r s =
    codes "site " ++ ((site_at d s).name ++ (codes " type " ++ (written (site_at d s).method_type ++ (codes " retargeted "
    ++ (decimal (version r s) ++ (codes " installed " ++ decimal (length (kept d r s))))))))

-- the declared parts of a link: `link 0 site f when int 1 weight 3`
abbrev pub declared_text : DefinitionData → ℕ → List ℕ
declared_text d j =
    codes "link " ++ (decimal j ++ (codes " site " ++ ((site_at d (site_of d j)).name
    ++ (codes " when " ++ (value_text (link_at d j).1.when ++ (codes " weight " ++ decimal (link_at d j).1.weight))))))

-- a link, with the hits that no worker has flushed: `link 0 site f when int 1 weight 3 hits 3 flushed 2 unflushed 1 gain 6 installed yes`
abbrev pub link_text : DefinitionData → List Record → ℕ → ℕ → List ℕ
link_text d r unflushed j =
    declared_text d j ++ (codes " hits " ++ (decimal (total r j + unflushed) ++ (codes " flushed " ++ (decimal (total r j)
    ++ (codes " unflushed " ++ (decimal unflushed ++ (codes " gain " ++ (decimal (gain d r j)
    ++ (codes " installed " ++ (yes_text (member (kept d r (site_of d j)) j) ++ charge_text (link_at d j).1.charge))))))))))

-- the points, the sites and the links after these records, each by number, given the number of unflushed hits of each link
abbrev pub tables_text : DefinitionData → List Record → List ℕ → List ℕ
tables_text d r unflushed =
    flat_map (λ p. ended (point_text d r p)) (numbers (length d.points))
    ++ (flat_map (λ s. ended (site_text d r s)) (numbers (length d.sites))
    ++ flat_map (λ j. ended (link_text d r (slice_index_or unflushed j 0) j)) (numbers (length (links d))))

-- for each link, the hits that the workers of a machine have not flushed
abbrev pub unflushed_in : MachineState → List ℕ
unflushed_in m = map (unflushed_of_all m.setting.definition m.history m.setting.workers) (numbers (length (links m.setting.definition)))

-- the numbers of what a machine has accepted: `report calls 4 events 9 snapshots 1 plans 1`
abbrev pub head_text : MachineState → List ℕ
head_text m =
    let r = records m.setting.definition m.history in
    codes "report calls " ++ (decimal (calls m.history) ++ (codes " events " ++ (decimal (length m.history)
    ++ (codes " snapshots " ++ (decimal (snapshots r) ++ (codes " plans " ++ decimal (plans r)))))))

-- the report of a machine
abbrev pub report_text : MachineState → List ℕ
report_text m = ended (head_text m) ++ tables_text m.setting.definition (records m.setting.definition m.history) (unflushed_in m)
