use Rattle.std.proofs.Common.{rules, ◌≡◌, ◌∙◌, ap}
use Rattle.std.specs.Arc.{arc_value}
use Rattle.mh_code.proofs.switching.Chain.finish.Goals as goal
use Rattle.mh_code.specs.Laws.Switches.{routine_of_switch}
use Rattle.mh_code.specs.PieceOf.{chain, routine_of, routines}

pub returns : goal.returns
returns c =
    let same : arc_value c.in_ok-index.index ≡ c.args.self.index = search rules in
    record {
      value = routine_of_switch c.args.place c.in_ok-index.index c.args.self.targets c.args.otherwise
          ∙ ap (λ rs. chain c.args.place rs (routines c.args.self.targets.items) (routine_of (arc_value c.args.otherwise))) same;
    }
