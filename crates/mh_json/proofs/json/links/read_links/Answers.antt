use Rattle.std.proofs.Common.{of_calls}
use Rattle.mh_json.specs.Script.{link_of}
use Rattle.mh_json.proofs.json.links.read_links.Goals as goal

pub returns : goal.returns
returns c = record { value = c.each.ensures.value (link_of c.args.version c.args.scope.now.points c.args.kind) (search of_calls) }
