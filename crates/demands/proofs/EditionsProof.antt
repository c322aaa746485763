-- Edition 1 saves are read back with their wind at every node, and an old build refuses a head 04.
use Rattle.loads.proofs.OwnLaws as own
use Rattle.loads.proofs.OldLaws as old_laws
use Rattle.demands.specs.Editions.{OldSavesLoad, OldBuildsRefuse}

pub old_saves_load : OldSavesLoad
old_saves_load m p state number w old other s ok long = own.load_old m p old long state number w s.values s.wx s.wy s.step ok other

pub old_builds_refuse : OldBuildsRefuse
old_builds_refuse = old_laws.old_build
