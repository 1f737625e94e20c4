use Rattle.std.proofs.Common.{List, ◌≤◌, ◌+◌, ap, sym, subst, arith}
use Rattle.mh_site.specs.declared.control.Control.TheVariants.{Install, Invalidate, Target}
use Rattle.mh_site.specs.Worlds.{site_states, IsWorld, SiteState}
use Rattle.mh_site.specs.Laws.Tables.{after_keeps, room_of}
use Rattle.mh_site.proofs.world.World.absorb.Goals as goal

pub retarget-requires : goal.retarget-requires
retarget-requires c = record {
  room = room_of c.self.inside.sites.items c.self.inside.linked.items c.self.invariant.0 c.self.inside.front _ c.self.invariant.1.early (omega (arith, ap (λ w. w.front) c.self.view_is));
  many = c.self.invariant.0;
}

pub invariant_of-self : goal.invariant_of-self
invariant_of-self c =
    let old = c.self.inside in (
      c.retarget.ensures.many,
      subst (λ (sites : List SiteState). IsWorld record { valid = old.valid.items; sites = sites; front = old.front + 1 }) (sym c.retarget.ensures.value)
          (after_keeps record { valid = old.valid.items; sites = site_states old.sites.items old.linked.items; front = old.front } (Target c.in-Target.retargeting) c.retarget.ensures.typed c.self.invariant.1),
    )

pub invariant_of-self-in-Install : goal.invariant_of-self-in-Install
invariant_of-self-in-Install c =
    let old = c.self.inside in (
      c.relink_all.ensures.many,
      subst (λ (sites : List SiteState). IsWorld record { valid = old.valid.items; sites = sites; front = old.front + 1 }) (sym c.relink_all.ensures.value)
          (after_keeps record { valid = old.valid.items; sites = site_states old.sites.items old.linked.items; front = old.front } (Install c.in-Install.installation) c.relink_all.ensures.typed c.self.invariant.1),
    )
