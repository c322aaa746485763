-- What the private functions write. No public contract cites it.
use Rattle.saves.specs.declared.writing.Saved as code
use Rattle.saves.specs.Save.{Saved}

-- a run, as the code holds what is saved of it
abbrev pub saved_by : code.Saved → Saved
saved_by s = record { n = s.n; e = s.e; sum = s.sum; p = s.p; state = s.state.now; clock = s.clock }
