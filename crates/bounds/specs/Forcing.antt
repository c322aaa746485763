-- Document 02, #105: a forcing as it is lent, and what a step tests before anything is worked out: the run's rows, and then row 12 over the forcing.
-- #107: a list of forcings as it is lent, and what is tested of it.
use Rattle.std.specs.Prelude.{ℕ, ◌+◌, ◌*◌, ◌/◌, ◌%◌, Bool, List, eqb, leb, length, get_or, take, drop, Float}
use Rattle.std.specs.Float.{nan}
use Rattle.rows.specs.declared.Answer.{Answer}
use Rattle.rows.specs.Scan.{row, ◌then◌, scan}
use Rattle.lists.specs.Table.{table}
use Rattle.lists.specs.Runs.{in_run}
use Rattle.quantities.specs.declared.Parameters.{Parameters}
use Rattle.quantities.specs.declared.Wind.{Wind}
use Rattle.limits.specs.Limits.{row12_level, row12_wind}
use Rattle.mesh.specs.Lent.{Mesh, N}
use Rattle.bounds.specs.State.{run_rows}

-- "A forcing is the new open elevation, then new wind Wx', Wy'", at each node: the elevation, then the two runs Wx' and Wy' of N
abbrev pub wind_runs : ℕ
wind_runs = 2

abbrev pub forcing_length : ℕ → ℕ
forcing_length n = 1 + wind_runs * n

abbrev pub is_forcing : ℕ → List Float → Bool
is_forcing n f = eqb (length f) (forcing_length n)

abbrev pub elevation_of : List Float → Float
elevation_of f = get_or f 0 nan

abbrev pub winds_of : List Float → List Float
winds_of f = drop 1 f

-- the wind of node i of n
abbrev pub wind_at : ℕ → List Float → ℕ → Wind
wind_at n winds i = record { x = in_run n 0 winds i; y = in_run n 1 winds i }

-- | 12 | … forcing elevation beyond 30; Wx', Wy' beyond 0.1 |, "with place 1 for the elevation and 2+i for node i"
unfoldable pub row12 : ℕ → List Float → Answer
row12 n f = row12_level (elevation_of f) then scan (λ i. row12_wind (wind_at n (winds_of f) i) i) n

-- | 1 | … a slice of another length |: of the forcing
abbrev pub row1_forcing : Mesh → List Float → Answer
row1_forcing m f = row (is_forcing (N m) f) 1 0

-- asked: what the call tests before the mesh's rows; also: what it tests after row 10 and before row 12
unfoldable pub forced_rows : Answer → Mesh → Parameters → List Float → Answer → List Float → Answer
forced_rows asked m p state also f = run_rows (asked then row1_forcing m f) m p state then also then row12 (N m) f

-- of a forcing alone, its length and then row 12
unfoldable pub weather_rows : ℕ → List Float → Answer
weather_rows n f = row (is_forcing n f) 1 0 then row12 n f

-- ---- #107: "a lent list of forcings", one after another
abbrev pub forcing_at : ℕ → List Float → ℕ → List Float
forcing_at n l j = take (forcing_length n) (drop (j * forcing_length n) l)

unfoldable pub forcings_of : ℕ → List Float → List (List Float)
forcings_of n l = table (length l / forcing_length n) (forcing_at n l)

-- "14 for a list above 4,096 forcings of 1+2N numbers, before row 1, which covers uneven lengths." asked: what else the call tests in row 1
abbrev pub most_forcings : ℕ
most_forcings = 4096

unfoldable pub row14 : ℕ → List Float → Answer
row14 n l = row (leb (length l) (most_forcings * forcing_length n)) 14 0

unfoldable pub list_rows : Answer → ℕ → List Float → Answer
list_rows asked n l = row14 n l then asked then row (eqb (length l % forcing_length n) 0) 1 0
