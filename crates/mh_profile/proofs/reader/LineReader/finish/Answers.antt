use Rattle.std.proofs.Common.{subst, List, ℕ}
use Rattle.mh_json.specs.Gives.{at_place, GivesAt}
use Rattle.mh_profile.specs.Profiles.{text_of_line}
use Rattle.mh_profile.proofs.Reading.{finished}
use Rattle.mh_profile.proofs.reader.LineReader.finish.Goals as goal

pub returns-clause-value : goal.returns-clause-value
returns-clause-value c =
    let gives = subst (λ (bs : List ℕ). GivesAt (λ x. x) c.read_numbered.result (at_place c.args.self.number (text_of_line c.args.self.number c.args.self.profile bs))) c.as_slice.ensures.value c.read_numbered.ensures.value in
    finished c.args.self c.requires.reading c.read_numbered.result gives
