use Rattle.std.proofs.Common.{List, ◌≤◌, ◌+◌, ◌≡◌, sym, subst, arith, length}
use Rattle.mh_site.specs.declared.control.Control.TheVariants.{Target, Invalidate, Install}
use Rattle.mh_site.specs.Worlds.{site_states, IsWorld, SiteState, WorldState}
use Rattle.mh_site.specs.Laws.Tables.{after_keeps, room_of}
use Rattle.mh_site.proofs.world.World.try_absorb.Goals.{in-Target+in_ok-share-in-Target, in-Invalidate, in-Install+in_ok-share_all-in-Install}
use Rattle.mh_site.proofs.world.World.try_absorb.Goals as goal

pub retarget-requires : goal.retarget-requires
retarget-requires c = record {
  room = room_of c.self.inside.sites.items c.self.inside.linked.items c.self.invariant.0 c.self.inside.front _ c.self.invariant.1.early (omega (arith, c.if-self.false));
  many = c.self.invariant.0;
}

pub invariant_of-self-2 : goal.invariant_of-self-2
invariant_of-self-2 c =
    let old : WorldState = record { valid = c.self.inside.valid.items; sites = site_states c.self.inside.sites.items c.self.inside.linked.items; front = c.self.inside.front } in
    let Next : List SiteState → Type 0 = λ sites. IsWorld record { valid = old.valid; sites = sites; front = old.front + 1 } in
    elim c.match-control.branch [
      | in-Target+in_ok-share-in-Target w ↦
          rw w.self-inside-is
          (w.retarget.ensures.many, subst Next (sym w.retarget.ensures.value) (after_keeps old (Target w.in_ok-share-in-Target.field-0) w.retarget.ensures.typed c.self.invariant.1))
      | in-Invalidate w ↦
          let kept = after_keeps old (Invalidate w.in-Invalidate.points) tt c.self.invariant.1 in
          rw w.self-inside-is (c.self.invariant.0, record { early = kept.early; typed = kept.typed })
      | in-Install+in_ok-share_all-in-Install w ↦
          rw w.self-inside-is
          (w.relink_each.ensures.many, subst Next (sym w.relink_each.ensures.value) (after_keeps old (Install w.share_all.new.incoming.items) w.relink_each.ensures.typed c.self.invariant.1))
    ]
