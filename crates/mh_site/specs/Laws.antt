-- Laws of the definitions, for the proofs of crates above. Each is proved, so none has to be believed.
pub mod Crossing
pub mod Extensions
pub mod LookBack
pub mod Numbers
pub mod Tables
pub mod Targets
pub mod Tests
pub use Rattle.mh_site.specs.Laws.Crossing.{WorldsCross}
pub use Rattle.mh_site.specs.Laws.Extensions.{links_first, links_stay, site_stays, sites_longer}
pub use Rattle.mh_site.specs.Laws.LookBack.{site_read, valid_is, world_front, world_sites}
pub use Rattle.mh_site.specs.Laws.Numbers.{before_within, home, links_in, numbered}
pub use Rattle.mh_site.specs.Laws.Targets.{links_kept, site_kept, sites_kept, with_targets_lawful}
pub use Rattle.mh_site.specs.Laws.Tests.{left_false, left_true, not_true, right_false, right_true}
