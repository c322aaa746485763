-- Document 01, "Frames", and document 02, #105: the kinds of lines, each by its kind byte.
use Rattle.std.specs.Prelude.{ℕ}
use Rattle.frames.specs.declared.Kind.{Kind}
use Rattle.frames.specs.declared.Kind.TheVariants.{Head1, Node1, End, Head2, Run, Node2, Forcing, Elevation, Wind}

-- "01 head", "02 node i", "03 end"; "head 04", "one line 05", "node lines 06"; "10 forcing"; "kind 14 (sequence, open elevation)", "kind 15 (sequence, Wx', Wy')"
abbrev pub kind_of : Kind → ℕ
kind_of Head1 = 0x01
kind_of Node1 = 0x02
kind_of End = 0x03
kind_of Head2 = 0x04
kind_of Run = 0x05
kind_of Node2 = 0x06
kind_of Forcing = 0x10
kind_of Elevation = 0x14
kind_of Wind = 0x15
