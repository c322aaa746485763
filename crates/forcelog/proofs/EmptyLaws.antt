-- What empty input prints, by computation.
use mathlib.Core.Path.{◌≡◌, refl}
use mathlib.Core.List.{[]}
use lib.ListN.{length}
use lib.Ieee.{round, to_bits}
use Rattle.rows.specs.Numbers.{decimal}
use Rattle.lists.specs.Table.{table}
use Rattle.frames.specs.Bytes.{digit, digits, field, sum, check}
use Rattle.frames.specs.Frames.{text, field_bytes, checked}
use Rattle.frames.specs.Texts.{lines_to}
use Rattle.mesh.specs.Geometry.{sides, area}
use Rattle.areas.specs.Areas.{total, sum_d}
use Rattle.forcelog.specs.MeshT.{T, T_parameters}
use Rattle.forcelog.specs.Log.{cold_log}
use Rattle.forcelog.specs.Printed.{taking, lines_of, grouped, printed}
use Rattle.forcelog.specs.Empty.{six_lines}

pub empty_printed : printed [] ≡ six_lines
unfolding printed taking lines_of grouped cold_log T T_parameters decimal round six_lines table sides area total sum_d lines_to text checked digits field_bytes field digit sum check to_bits
empty_printed = refl

pub empty_length : length six_lines ≡ 442
unfolding six_lines
empty_length = refl
