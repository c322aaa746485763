-- Document 01, "Frames", and document 02, #105: the lines of a save in either edition, as one description that writing, reading and their laws share.
use Rattle.std.specs.Prelude.{ℕ, zero, suc, ◌+◌, ◌*◌, List, [], ◌∷◌, cond, ltb, length}
use Rattle.frames.specs.Frames.{Frame, Layout, line, byte_of}
use Rattle.frames.specs.Texts.{lines_to, starts}

-- ---- the line kinds
-- "01 head, sequence 0: N (2), E (2), step (4), Wx, Wy. 56 digits."
abbrev pub head1 : Layout
head1 = record { kind = 1; widths = 2 ∷ 2 ∷ 4 ∷ 8 ∷ 8 ∷ [] }

-- "02 node i, sequence i+1: earlier z, z, U, V. 72 digits."
abbrev pub node1 : Layout
node1 = record { kind = 2; widths = 8 ∷ 8 ∷ 8 ∷ 8 ∷ [] }

-- "03 end, sequence N+1: N (2). 12 digits."
abbrev pub end_layout : Layout
end_layout = record { kind = 3; widths = 2 ∷ [] }

-- #105: "head 04 (N, E, step)"
abbrev pub head2 : Layout
head2 = record { kind = 4; widths = 2 ∷ 2 ∷ 4 ∷ [] }

-- "one line 05 (dt, tau, K, f, and the sum of all D in 8 bytes)"
abbrev pub run2 : Layout
run2 = record { kind = 5; widths = 8 ∷ 8 ∷ 8 ∷ 8 ∷ 8 ∷ [] }

-- "node lines 06 with six values"
abbrev pub node2 : Layout
node2 = record { kind = 6; widths = 8 ∷ 8 ∷ 8 ∷ 8 ∷ 8 ∷ 8 ∷ [] }

-- line i past these
abbrev pub past : List Layout → ℕ → ℕ
past [] i = i
past (l ∷ ls) i = suc (past ls i)

-- ---- an edition: the lines before the nodes', a node's line, and the line and the byte at which the wind of node i stands
pub record Edition : Type 0 where
  pub heads : List Layout
  pub node : Layout
  pub wind_line : ℕ → ℕ
  pub wind_byte : ℕ

-- "an edition 1 load gives every node the head's wind"
abbrev pub edition1 : Edition
edition1 = record { heads = head1 ∷ []; node = node1; wind_line = λ _. 0; wind_byte = byte_of head1.widths 3 }

abbrev pub edition2 : Edition
edition2 = record { heads = head2 ∷ run2 ∷ []; node = node2; wind_line = past (head2 ∷ run2 ∷ []); wind_byte = byte_of node2.widths 4 }

-- "A head starting 01 … is measured by that kind, any other by the new": the characters 0 and 1
abbrev pub edition_of : List ℕ → Edition
edition_of t = cond (starts 48 49 t) edition1 edition2

-- what is due at line j of a save of n nodes: these heads, nodes, end
abbrev pub layout_from : List Layout → Layout → ℕ → ℕ → Layout
layout_from [] node n j = cond (ltb j n) node end_layout
layout_from (l ∷ ls) node n zero = l
layout_from (l ∷ ls) node n (suc j) = layout_from ls node n j

module _ (d : Edition) where
  abbrev pub layout_at : ℕ → ℕ → Layout
  layout_at n = layout_from d.heads d.node n

  -- the line of node i, and how many lines there are
  abbrev pub node_line : ℕ → ℕ
  node_line i = past d.heads i

  abbrev pub line_count : ℕ → ℕ
  line_count n = n + (length d.heads + 1)

-- ---- the values of a save's lines: of its heads, of node i; and of its end line "N (2)"
pub record Values : Type 0 where
  pub heads : List (List ℕ)
  pub node : ℕ → List ℕ

abbrev pub values_from : List (List ℕ) → (ℕ → List ℕ) → ℕ → ℕ → List ℕ
values_from [] node n j = cond (ltb j n) (node j) (n ∷ [])
values_from (v ∷ vs) node n zero = v
values_from (v ∷ vs) node n (suc j) = values_from vs node n j

-- line j: its sequence is its number, "sequences running on"
module _ (d : Edition) (n : ℕ) (v : Values) where
  abbrev pub line_of : ℕ → Frame
  line_of j = line (layout_at d n j) j (values_from v.heads v.node n j)

  abbrev pub text_of : List ℕ
  text_of = lines_to line_of (line_count d n)

-- "A save is then 127+105N bytes"
abbrev pub save_length : ℕ → ℕ
save_length n = 127 + 105 * n
