use Rattle.std.proofs.Common.{◌≡◌, sym, ap}
use Rattle.mh_core.specs.declared.refusal.Refusal.TheVariants.{NoMemory}
use Rattle.mh_core.specs.declared.reply.Reply.{Reply}
use Rattle.mh_core.specs.declared.reply.Reply.TheVariants.{Refused}
use Rattle.mh_text.specs.Lines.{line_of}
use Rattle.mh_text.proofs.Runs.{line_with}
use Rattle.mh_text.proofs.streams.run.write_line.Goals as goal

pub returns-then-is_out_of_memory-clause-line : goal.returns-then-is_out_of_memory-clause-line
returns-then-is_out_of_memory-clause-line g c =
    let none : c.args.reply.now ≡ Refused NoMemory = c.is_out_of_memory.ensures.decides.0 c.if-is_out_of_memory.true in
    line_with _ _ _ _ _ c.args.definition.now (c.args.named, c.args.reply.now) (ap (λ (reply : Reply). line_of c.args.definition.now (c.args.named, reply)) (sym none)) c.write_text.ensures.line
