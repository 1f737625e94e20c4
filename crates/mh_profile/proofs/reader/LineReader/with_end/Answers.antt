use Rattle.std.proofs.Common.{◌≡◌, ◌⊎◌, ◌∙◌, ◌+◌, ap, refl, subst, Ok, Err, List, ℕ}
use Rattle.std.proofs.lemmas.Result.{err_from_is_err_and}
use Rattle.mh_profile.specs.declared.reader.LineReader.{LineReader}
use Rattle.mh_json.specs.Gives.{no_memory, at_place, outside}
use Rattle.mh_profile.specs.Profiles.{text_of_line}
use Rattle.mh_profile.proofs.Reading.{end_taken, end_refused}
use Rattle.mh_profile.proofs.reader.LineReader.with_end.Goals as goal

pub returns-in_err-profile-clause-takes : goal.returns-in_err-profile-clause-takes
returns-in_err-profile-clause-takes c =
    let p = err_from_is_err_and c.from_residual.result c.from_residual.ensures.1 in
    let e = c.in_err-profile.field-0.0 in
    let told = subst (λ (bs : List ℕ). (e ≡ outside no_memory) ⊎ (at_place c.args.self.number (text_of_line c.args.self.number c.args.self.profile bs) ≡ Err e)) c.as_slice.ensures.value c.in_err-profile.ensures.value in
    rw (p.1, p.2) (end_refused c.args.self c.requires.reading e told)

pub returns-clause-takes : goal.returns-clause-takes
returns-clause-takes c =
    let next : LineReader = record { alloc = c.args.self.alloc; profile = c.in_ok-profile.profile; line = c.from_vec.result; number = c.args.self.number + 1; offset = c.args.self.offset + c.len.result + 1 } in
    let read = subst (λ (bs : List ℕ). at_place c.args.self.number (text_of_line c.args.self.number c.args.self.profile bs) ≡ Ok c.in_ok-profile.profile) c.as_slice.ensures.value c.in_ok-profile.ensures.value in
    end_taken c.args.self c.requires.reading next read refl (ap (λ (n : ℕ). c.args.self.offset + n + 1) c.len.ensures.value) (c.from_vec.ensures.value ∙ c.clear.ensures.items)
