use Rattle.std.proofs.Common.{◌≡◌, Some, None, if◌then◌else◌}
use Rattle.serde_json.specs.View.{members_view}
use Rattle.mh_explain.specs.Unread.{has_other, or_later}
use Rattle.mh_explain.proofs.unread.UnreadKeys.add_members.Given as goal

-- the first so far, and then that of the rest, is the first of all
abbrev pub invariant-loop-key : goal.invariant-loop-key
invariant-loop-key l =
    or_later l.self.first (if has_other l.look.keys.now (members_view l.key-iterator) then Some l.look.event else None)
    ≡ or_later l.fn.self.first (if has_other l.look.keys.now (members_view l.members.entries) then Some l.look.event else None)
