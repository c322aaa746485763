-- "No public function stands without a promise that determines its answer, and every lent slice afterwards, on all inputs. That at most one outcome
-- satisfies it is proved": said of each public function's own contract, as it is read from the source. tools/promises holds the list to the source: each
-- field is named by its function's crate and module, and speaks of that function's contract.
use Rattle.std.specs.Prelude.{ℕ, ◌<◌, ◌≡◌, List, ⊤}
use mir.Syntax.{Dict}
use denote.RattleType.{RattleType}
use contract.Lifetimes.{Lfts}
use denote.Triple.Entry.{Args, Res}
use denote.Triple.Clauses.{Ended, Clauses, Lasts, at_exit}
use borrow.Fn.World.{w₀}
use Rattle.demands.specs.Ensured.{Requires, Ensures, told, says, nothing, 𝓛₀, mem₀, run₀}
use Rattle.rows.specs.declared.Answer.{Answer}
use Rattle.rows.specs.declared.Refusal.{Refusal}
use Rattle.rows.specs.Refusals.{answered}
use Rattle.rows.specs.Says.{SaysOf}
use Rattle.rows.specs.declared.Says as Says
use Rattle.std.specs.declared.convert.From as From
use Rattle.std.specs.declared.clone.Clone as Clone
use Rattle.rows.specs.contracts.Refusal.{the_row}
use Rattle.rows.specs.contracts.RefusalSays.TheImpl as refusal
use Rattle.rows.specs.contracts.scan.F-Fn as scan_calls
use Rattle.rows.specs.contracts.scan_tests.F-Fn as scan_tests_calls
use Rattle.rows.specs.contracts.answers.accept as rows_answers_accept
use Rattle.rows.specs.contracts.answers.refuse as rows_answers_refuse
use Rattle.rows.specs.contracts.answers.tested as rows_answers_tested
use Rattle.rows.specs.contracts.answers.first as rows_answers_first
use Rattle.rows.specs.contracts.answers.asked as rows_answers_asked
use Rattle.rows.specs.contracts.Row.number as rows_row_number
use Rattle.rows.specs.contracts.refuse as rows_refuse
use Rattle.rows.specs.contracts.tested as rows_tested
use Rattle.rows.specs.contracts.first as rows_first
use Rattle.rows.specs.contracts.scan as rows_scan
use Rattle.rows.specs.contracts.scan_tests as rows_scan_tests
use Rattle.rows.specs.contracts.in_range as rows_in_range
use Rattle.lists.specs.contracts.slices.is_runs as lists_slices_is_runs
use Rattle.lists.specs.contracts.slices.clear as lists_slices_clear
use Rattle.lists.specs.contracts.slices.clear_whole as lists_slices_clear_whole
use Rattle.lists.specs.contracts.slices.copy as lists_slices_copy
use Rattle.triangle.specs.contracts.slope as triangle_slope
use Rattle.triangle.specs.contracts.means_of as triangle_means_of
use Rattle.triangle.specs.contracts.advection_of as triangle_advection_of
use Rattle.elevation.specs.contracts.shares as elevation_shares
use Rattle.elevation.specs.contracts.rise_of as elevation_rise_of
use Rattle.velocity.specs.contracts.flow_of as velocity_flow_of
use Rattle.outcomes.specs.contracts.rise_row as outcomes_rise_row
use Rattle.outcomes.specs.contracts.flow_row as outcomes_flow_row
use Rattle.limits.specs.contracts.is_node as limits_is_node
use Rattle.limits.specs.contracts.parameters as limits_parameters
use Rattle.limits.specs.contracts.in_bounds as limits_in_bounds
use Rattle.limits.specs.contracts.may_count as limits_may_count
use Rattle.limits.specs.contracts.is_calm as limits_is_calm
use Rattle.limits.specs.contracts.elevation as limits_elevation
use Rattle.patterns.specs.contracts.pattern_of as patterns_pattern_of
use Rattle.patterns.specs.contracts.float_of as patterns_float_of
use Rattle.frames.specs.contracts.Kind.byte as frames_kind_byte
use Rattle.frames.specs.contracts.digits.tallied as frames_digits_tallied
use Rattle.frames.specs.contracts.reading.value as frames_reading_value
use Rattle.frames.specs.contracts.reading.float_at as frames_reading_float_at
use Rattle.frames.specs.contracts.reading.values as frames_reading_values
use Rattle.frames.specs.contracts.reading.part as frames_reading_part
use Rattle.frames.specs.contracts.reading.starts as frames_reading_starts
use Rattle.faults.specs.contracts.fault as faults_fault
use Rattle.editions.specs.contracts.edition_of as editions_edition_of
use Rattle.editions.specs.contracts.due as editions_due
use Rattle.editions.specs.contracts.node_wind as editions_node_wind
use Rattle.editions.specs.contracts.line_row as editions_line_row
use Rattle.lines.specs.contracts.Line.begin as lines_line_begin
use Rattle.lines.specs.contracts.Line.append as lines_line_append
use Rattle.lines.specs.contracts.Line.seal as lines_line_seal
use Rattle.lines.specs.contracts.put as lines_put
use Rattle.crossing.specs.contracts.number_at as crossing_number_at
use Rattle.crossing.specs.contracts.put_number as crossing_put_number
use Rattle.crossing.specs.contracts.pattern_32 as crossing_pattern_32
use Rattle.crossing.specs.contracts.int_at as crossing_int_at
use Rattle.crossing.specs.contracts.ints_into as crossing_ints_into
use Rattle.crossing.specs.contracts.words_into as crossing_words_into
use Rattle.crossing.specs.contracts.floats_into as crossing_floats_into
use Rattle.geometry.specs.contracts.sides_of as geometry_sides_of
use Rattle.geometry.specs.contracts.all_near as geometry_all_near
use Rattle.geometry.specs.contracts.twice_area as geometry_twice_area
use Rattle.geometry.specs.contracts.sum_of as geometry_sum_of
use Rattle.mesh.specs.contracts.reading.corners_at as mesh_reading_corners_at
use Rattle.mesh.specs.contracts.reading.corners_of as mesh_reading_corners_of
use Rattle.mesh.specs.contracts.reading.places_at as mesh_reading_places_at
use Rattle.mesh.specs.contracts.size_rows as mesh_size_rows
use Rattle.mesh.specs.contracts.shape_rows as mesh_shape_rows
use Rattle.legs.specs.contracts.leg_rows as legs_leg_rows
use Rattle.areas.specs.contracts.twice_areas as areas_twice_areas
use Rattle.nodes.specs.contracts.mesh_rows as nodes_mesh_rows
use Rattle.nodes.specs.contracts.open_rows as nodes_open_rows
use Rattle.bounds.specs.contracts.run_rows as bounds_run_rows
use Rattle.bounds.specs.contracts.forced_rows as bounds_forced_rows
use Rattle.bounds.specs.contracts.weather_rows as bounds_weather_rows
use Rattle.bounds.specs.contracts.list_rows as bounds_list_rows
use Rattle.location.specs.contracts.survey as location_survey
use Rattle.looking.specs.contracts.look as looking_look
use Rattle.looking.specs.contracts.look_at as looking_look_at
use Rattle.keeping.specs.contracts.point_at as keeping_point_at
use Rattle.keeping.specs.contracts.mark_at as keeping_mark_at
use Rattle.keeping.specs.contracts.points as keeping_points
use Rattle.keeping.specs.contracts.number_rows as keeping_number_rows
use Rattle.keeping.specs.contracts.add as keeping_add
use Rattle.keeping.specs.contracts.update as keeping_update
use Rattle.gauges.specs.contracts.gauge_locate as gauges_gauge_locate
use Rattle.gauges.specs.contracts.gauge_add as gauges_gauge_add
use Rattle.gauges.specs.contracts.gauge_elevation as gauges_gauge_elevation
use Rattle.gauges.specs.contracts.gauge_update as gauges_gauge_update
use Rattle.gauges.specs.contracts.gauge_peak as gauges_gauge_peak
use Rattle.passes.specs.contracts.settle as passes_settle
use Rattle.passes.specs.contracts.settle_all as passes_settle_all
use Rattle.surge.specs.contracts.open as surge_open
use Rattle.surge.specs.contracts.step as surge_step
use Rattle.surge.specs.contracts.step_all as surge_step_all
use Rattle.grids.specs.contracts.read_grid as grids_read_grid
use Rattle.forcings.specs.contracts.read_forcing as forcings_read_forcing
use Rattle.saves.specs.contracts.save as saves_save
use Rattle.loads.specs.contracts.load as loads_load
use Rattle.capi.specs.contracts.surge_open as capi_surge_open
use Rattle.capi.specs.contracts.surge_step as capi_surge_step
use Rattle.capi.specs.contracts.surge_step_all as capi_surge_step_all
use Rattle.capi.specs.contracts.surge_save as capi_surge_save
use Rattle.capi.specs.contracts.surge_load as capi_surge_load
use Rattle.capi.specs.contracts.surge_read_forcing as capi_surge_read_forcing
use Rattle.capi.specs.contracts.surge_read_grid as capi_surge_read_grid
use Rattle.refusals.specs.contracts.refusal as refusals_refusal
use Rattle.forcelog.specs.contracts.cold as forcelog_cold
use Rattle.forcelog.specs.contracts.take as forcelog_take
use Rattle.forcelog.specs.contracts.end as forcelog_end

-- T and c are a function's parameters and contract, and r reads its `ensures` (demands/specs/Ensured). At the same arguments a, two results x and y, with the
-- lent slices left as v and w, that both meet the `ensures` are the same, and so are the slices.
abbrev pub Determined : (T : Ended) (c : Clauses w₀.𝓤 T) → Ensures T c → Type 0
Determined T c r =
    (κs : Lfts T.signature.lifetimes) (a : Args T.signature κs) (g : (c κs a).ghost) (x y : Res T.signature κs) (v w : Lasts T κs a) →
    told (r κs a g x (at_exit T κs a v)) → told (r κs a g y (at_exit T κs a w)) → (x ≡ y) × (v ≡ w)

-- the same of a function that hands back a part of a slice that it was lent: of what is seen through it. Where it lies in memory no contract says
abbrev pub DeterminedSeen : (T : Ended) (c : Clauses w₀.𝓤 T) → Ensures T c → ((κs : Lfts T.signature.lifetimes) → Res T.signature κs → List ℕ) → Type 0
DeterminedSeen T c r seen =
    (κs : Lfts T.signature.lifetimes) (a : Args T.signature κs) (g : (c κs a).ghost) (x y : Res T.signature κs) (v w : Lasts T κs a) →
    told (r κs a g x (at_exit T κs a v)) → told (r κs a g y (at_exit T κs a w)) → (seen κs x ≡ seen κs y) × (v ≡ w)

-- of a function whose refusals are of a type E (rows/specs/Says), at the table's refusals: which are made of a refusal, and which are copies of one. c, d and e
-- are the code of these bounds and of what E says, of which no clause speaks
abbrev pub made : From.Ghosts Refusal Refusal
made = record { from_gives = λ x r. r ≡ x }

abbrev pub alike : Clone.Ghosts Refusal
alike = record { is_clone = λ r q. q ≡ r; is_infallible = λ r. ⊤ }

pub record EachDetermined : Type 0 where
  pub rows_answers_accept_determined : Determined rows_answers_accept.ended (rows_answers_accept.clauses 𝓛₀ mem₀ run₀) (λ κs a g x s. says _)
  pub rows_answers_refuse_determined : Determined rows_answers_refuse.ended (rows_answers_refuse.clauses 𝓛₀ mem₀ run₀) (λ κs a g x s. says _)
  pub rows_answers_tested_determined : Determined rows_answers_tested.ended (rows_answers_tested.clauses 𝓛₀ mem₀ run₀) (λ κs a g x s. says _)
  pub rows_answers_first_determined : Determined rows_answers_first.ended (rows_answers_first.clauses 𝓛₀ mem₀ run₀) (λ κs a g x s. says _)
  pub rows_answers_asked_determined : Determined rows_answers_asked.ended (rows_answers_asked.clauses 𝓛₀ mem₀ run₀) (λ κs a g x s. says _)
  pub rows_row_number_determined : Determined rows_row_number.ended (rows_row_number.clauses 𝓛₀ mem₀ run₀) (λ κs a g x s. says _)
  pub rows_refuse_determined : Determined rows_refuse.ended (rows_refuse.clauses 𝓛₀ mem₀ run₀) (λ κs a g x s. says _)
  pub rows_tested_determined : Determined rows_tested.ended (rows_tested.clauses 𝓛₀ mem₀ run₀) (λ κs a g x s. says _)
  pub rows_first_determined : (c d e : Dict) → Determined (rows_first.ended the_row refusal.ghosts c made d alike e) (rows_first.clauses the_row refusal.ghosts c made d alike e 𝓛₀ mem₀ run₀) (λ κs a g x s. says _)
  pub rows_in_range_determined : Determined rows_in_range.ended (rows_in_range.clauses 𝓛₀ mem₀ run₀) (λ κs a g x s. says _)
  pub lists_slices_is_runs_determined : Determined lists_slices_is_runs.ended (lists_slices_is_runs.clauses 𝓛₀ mem₀ run₀) (λ κs a g x s. says _)
  pub lists_slices_clear_determined : Determined lists_slices_clear.ended (lists_slices_clear.clauses 𝓛₀ mem₀ run₀) (λ κs a g x s. says _)
  pub lists_slices_clear_whole_determined : Determined lists_slices_clear_whole.ended (lists_slices_clear_whole.clauses 𝓛₀ mem₀ run₀) (λ κs a g x s. says _)
  pub lists_slices_copy_determined : Determined lists_slices_copy.ended (lists_slices_copy.clauses 𝓛₀ mem₀ run₀) (λ κs a g x s. says _)
  pub triangle_slope_determined : Determined triangle_slope.ended (triangle_slope.clauses 𝓛₀ mem₀ run₀) (λ κs a g x s. says _)
  pub triangle_means_of_determined : Determined triangle_means_of.ended (triangle_means_of.clauses 𝓛₀ mem₀ run₀) (λ κs a g x s. says _)
  pub triangle_advection_of_determined : Determined triangle_advection_of.ended (triangle_advection_of.clauses 𝓛₀ mem₀ run₀) (λ κs a g x s. says _)
  pub elevation_shares_determined : Determined elevation_shares.ended (elevation_shares.clauses 𝓛₀ mem₀ run₀) (λ κs a g x s. says _)
  pub elevation_rise_of_determined : Determined elevation_rise_of.ended (elevation_rise_of.clauses 𝓛₀ mem₀ run₀) (λ κs a g x s. says _)
  pub velocity_flow_of_determined : Determined velocity_flow_of.ended (velocity_flow_of.clauses 𝓛₀ mem₀ run₀) (λ κs a g x s. says _)
  pub outcomes_rise_row_determined : Determined outcomes_rise_row.ended (outcomes_rise_row.clauses 𝓛₀ mem₀ run₀) (λ κs a g x s. says _)
  pub outcomes_flow_row_determined : Determined outcomes_flow_row.ended (outcomes_flow_row.clauses 𝓛₀ mem₀ run₀) (λ κs a g x s. says _)
  pub limits_is_node_determined : Determined limits_is_node.ended (limits_is_node.clauses 𝓛₀ mem₀ run₀) (λ κs a g x s. says _)
  pub limits_parameters_determined : Determined limits_parameters.ended (limits_parameters.clauses 𝓛₀ mem₀ run₀) (λ κs a g x s. says _)
  pub limits_in_bounds_determined : Determined limits_in_bounds.ended (limits_in_bounds.clauses 𝓛₀ mem₀ run₀) (λ κs a g x s. says _)
  pub limits_may_count_determined : Determined limits_may_count.ended (limits_may_count.clauses 𝓛₀ mem₀ run₀) (λ κs a g x s. says _)
  pub limits_is_calm_determined : Determined limits_is_calm.ended (limits_is_calm.clauses 𝓛₀ mem₀ run₀) (λ κs a g x s. says _)
  pub limits_elevation_determined : Determined limits_elevation.ended (limits_elevation.clauses 𝓛₀ mem₀ run₀) (λ κs a g x s. says _)
  pub patterns_pattern_of_determined : Determined patterns_pattern_of.ended (patterns_pattern_of.clauses 𝓛₀ mem₀ run₀) (λ κs a g x s. says _)
  pub patterns_float_of_determined : Determined patterns_float_of.ended (patterns_float_of.clauses 𝓛₀ mem₀ run₀) (λ κs a g x s. says _)
  pub frames_kind_byte_determined : Determined frames_kind_byte.ended (frames_kind_byte.clauses 𝓛₀ mem₀ run₀) (λ κs a g x s. says _)
  pub frames_digits_tallied_determined : Determined frames_digits_tallied.ended (frames_digits_tallied.clauses 𝓛₀ mem₀ run₀) (λ κs a g x s. says _)
  pub frames_reading_value_determined : Determined frames_reading_value.ended (frames_reading_value.clauses 𝓛₀ mem₀ run₀) (λ κs a g x s. says _)
  pub frames_reading_float_at_determined : Determined frames_reading_float_at.ended (frames_reading_float_at.clauses 𝓛₀ mem₀ run₀) (λ κs a g x s. says _)
  pub frames_reading_values_determined : Determined frames_reading_values.ended (frames_reading_values.clauses 𝓛₀ mem₀ run₀) (λ κs a g x s. says _)
  pub frames_reading_part_determined : DeterminedSeen frames_reading_part.ended (frames_reading_part.clauses 𝓛₀ mem₀ run₀) (λ κs a g x s. says _) (λ κs x. x.now)
  pub frames_reading_starts_determined : Determined frames_reading_starts.ended (frames_reading_starts.clauses 𝓛₀ mem₀ run₀) (λ κs a g x s. says _)
  pub faults_fault_determined : Determined faults_fault.ended (faults_fault.clauses 𝓛₀ mem₀ run₀) (λ κs a g x s. says _)
  pub editions_edition_of_determined : Determined editions_edition_of.ended (editions_edition_of.clauses 𝓛₀ mem₀ run₀) (λ κs a g x s. says _)
  pub editions_due_determined : Determined editions_due.ended (editions_due.clauses 𝓛₀ mem₀ run₀) (λ κs a g x s. says _)
  pub editions_node_wind_determined : Determined editions_node_wind.ended (editions_node_wind.clauses 𝓛₀ mem₀ run₀) (λ κs a g x s. says _)
  pub editions_line_row_determined : Determined editions_line_row.ended (editions_line_row.clauses 𝓛₀ mem₀ run₀) (λ κs a g x s. says _)
  pub lines_line_begin_determined : Determined lines_line_begin.ended (lines_line_begin.clauses 𝓛₀ mem₀ run₀) (λ κs a g x s. says _)
  pub lines_line_append_determined : Determined lines_line_append.ended (lines_line_append.clauses 𝓛₀ mem₀ run₀) (λ κs a g x s. says _)
  pub lines_line_seal_determined : Determined lines_line_seal.ended (lines_line_seal.clauses 𝓛₀ mem₀ run₀) (λ κs a g x s. says _)
  pub lines_put_determined : Determined lines_put.ended (lines_put.clauses 𝓛₀ mem₀ run₀) (λ κs a g x s. says _)
  pub crossing_number_at_determined : Determined crossing_number_at.ended (crossing_number_at.clauses 𝓛₀ mem₀ run₀) (λ κs a g x s. says _)
  pub crossing_put_number_determined : Determined crossing_put_number.ended (crossing_put_number.clauses 𝓛₀ mem₀ run₀) (λ κs a g x s. says _)
  pub crossing_pattern_32_determined : Determined crossing_pattern_32.ended (crossing_pattern_32.clauses 𝓛₀ mem₀ run₀) (λ κs a g x s. says _)
  pub crossing_int_at_determined : Determined crossing_int_at.ended (crossing_int_at.clauses 𝓛₀ mem₀ run₀) (λ κs a g x s. says _)
  pub crossing_ints_into_determined : Determined crossing_ints_into.ended (crossing_ints_into.clauses 𝓛₀ mem₀ run₀) (λ κs a g x s. says _)
  pub crossing_words_into_determined : Determined crossing_words_into.ended (crossing_words_into.clauses 𝓛₀ mem₀ run₀) (λ κs a g x s. says _)
  pub crossing_floats_into_determined : Determined crossing_floats_into.ended (crossing_floats_into.clauses 𝓛₀ mem₀ run₀) (λ κs a g x s. says _)
  pub geometry_sides_of_determined : Determined geometry_sides_of.ended (geometry_sides_of.clauses 𝓛₀ mem₀ run₀) (λ κs a g x s. says _)
  pub geometry_all_near_determined : Determined geometry_all_near.ended (geometry_all_near.clauses 𝓛₀ mem₀ run₀) (λ κs a g x s. says _)
  pub geometry_twice_area_determined : Determined geometry_twice_area.ended (geometry_twice_area.clauses 𝓛₀ mem₀ run₀) (λ κs a g x s. says _)
  pub geometry_sum_of_determined : Determined geometry_sum_of.ended (geometry_sum_of.clauses 𝓛₀ mem₀ run₀) (λ κs a g x s. says _)
  pub mesh_reading_corners_at_determined : Determined mesh_reading_corners_at.ended (mesh_reading_corners_at.clauses 𝓛₀ mem₀ run₀) (λ κs a g x s. says _)
  pub mesh_reading_corners_of_determined : Determined mesh_reading_corners_of.ended (mesh_reading_corners_of.clauses 𝓛₀ mem₀ run₀) (λ κs a g x s. says _)
  pub mesh_reading_places_at_determined : Determined mesh_reading_places_at.ended (mesh_reading_places_at.clauses 𝓛₀ mem₀ run₀) (λ κs a g x s. says _)
  pub mesh_size_rows_determined : (c d e : Dict) → Determined (mesh_size_rows.ended the_row refusal.ghosts c made d alike e) (mesh_size_rows.clauses the_row refusal.ghosts c made d alike e 𝓛₀ mem₀ run₀) (λ κs a g x s. says _)
  pub mesh_shape_rows_determined : (c d e : Dict) → Determined (mesh_shape_rows.ended the_row refusal.ghosts c made d alike e) (mesh_shape_rows.clauses the_row refusal.ghosts c made d alike e 𝓛₀ mem₀ run₀) (λ κs a g x s. says _)
  pub legs_leg_rows_determined : Determined legs_leg_rows.ended (legs_leg_rows.clauses 𝓛₀ mem₀ run₀) (λ κs a g x s. says _)
  pub areas_twice_areas_determined : Determined areas_twice_areas.ended (areas_twice_areas.clauses 𝓛₀ mem₀ run₀) (λ κs a g x s. says _)
  pub nodes_mesh_rows_determined : (c d e : Dict) → Determined (nodes_mesh_rows.ended the_row refusal.ghosts c made d alike e) (nodes_mesh_rows.clauses the_row refusal.ghosts c made d alike e 𝓛₀ mem₀ run₀) (λ κs a g x s. says _)
  pub nodes_open_rows_determined : (c d e : Dict) → Determined (nodes_open_rows.ended the_row refusal.ghosts c made d alike e) (nodes_open_rows.clauses the_row refusal.ghosts c made d alike e 𝓛₀ mem₀ run₀) (λ κs a g x s. says _)
  pub bounds_run_rows_determined : (c d e : Dict) → Determined (bounds_run_rows.ended the_row refusal.ghosts c made d alike e) (bounds_run_rows.clauses the_row refusal.ghosts c made d alike e 𝓛₀ mem₀ run₀) (λ κs a g x s. says _)
  pub bounds_forced_rows_determined : (c d e : Dict) → Determined (bounds_forced_rows.ended the_row refusal.ghosts c made d alike e) (bounds_forced_rows.clauses the_row refusal.ghosts c made d alike e 𝓛₀ mem₀ run₀) (λ κs a g x s. says _)
  pub bounds_weather_rows_determined : Determined bounds_weather_rows.ended (bounds_weather_rows.clauses 𝓛₀ mem₀ run₀) (λ κs a g x s. says _)
  pub bounds_list_rows_determined : (c d e : Dict) → Determined (bounds_list_rows.ended the_row refusal.ghosts c made d alike e) (bounds_list_rows.clauses the_row refusal.ghosts c made d alike e 𝓛₀ mem₀ run₀) (λ κs a g x s. says _)
  pub location_survey_determined : (c d e : Dict) → Determined (location_survey.ended the_row refusal.ghosts c made d alike e) (location_survey.clauses the_row refusal.ghosts c made d alike e 𝓛₀ mem₀ run₀) (λ κs a g x s. says _)
  pub looking_look_determined : Determined looking_look.ended (looking_look.clauses 𝓛₀ mem₀ run₀) (λ κs a g x s. says _)
  pub looking_look_at_determined : Determined looking_look_at.ended (looking_look_at.clauses 𝓛₀ mem₀ run₀) (λ κs a g x s. says _)
  pub keeping_point_at_determined : Determined keeping_point_at.ended (keeping_point_at.clauses 𝓛₀ mem₀ run₀) (λ κs a g x s. says _)
  pub keeping_mark_at_determined : Determined keeping_mark_at.ended (keeping_mark_at.clauses 𝓛₀ mem₀ run₀) (λ κs a g x s. says _)
  pub keeping_points_determined : Determined keeping_points.ended (keeping_points.clauses 𝓛₀ mem₀ run₀) (λ κs a g x s. says _)
  pub keeping_number_rows_determined : Determined keeping_number_rows.ended (keeping_number_rows.clauses 𝓛₀ mem₀ run₀) (λ κs a g x s. says _)
  pub keeping_add_determined : (c d e : Dict) → Determined (keeping_add.ended the_row refusal.ghosts c made d alike e) (keeping_add.clauses the_row refusal.ghosts c made d alike e 𝓛₀ mem₀ run₀) (λ κs a g x s. says _)
  pub keeping_update_determined : (c d e : Dict) → Determined (keeping_update.ended the_row refusal.ghosts c made d alike e) (keeping_update.clauses the_row refusal.ghosts c made d alike e 𝓛₀ mem₀ run₀) (λ κs a g x s. says _)
  pub gauges_gauge_locate_determined : Determined gauges_gauge_locate.ended (gauges_gauge_locate.clauses 𝓛₀ mem₀ run₀) (λ κs a g x s. says _)
  pub gauges_gauge_add_determined : Determined gauges_gauge_add.ended (gauges_gauge_add.clauses 𝓛₀ mem₀ run₀) (λ κs a g x s. says _)
  pub gauges_gauge_elevation_determined : Determined gauges_gauge_elevation.ended (gauges_gauge_elevation.clauses 𝓛₀ mem₀ run₀) (λ κs a g x s. says _)
  pub gauges_gauge_update_determined : Determined gauges_gauge_update.ended (gauges_gauge_update.clauses 𝓛₀ mem₀ run₀) (λ κs a g x s. says _)
  pub gauges_gauge_peak_determined : Determined gauges_gauge_peak.ended (gauges_gauge_peak.clauses 𝓛₀ mem₀ run₀) (λ κs a g x s. says _)
  pub passes_settle_determined : (c d e : Dict) → Determined (passes_settle.ended the_row refusal.ghosts c made d alike e) (passes_settle.clauses the_row refusal.ghosts c made d alike e 𝓛₀ mem₀ run₀) (λ κs a g x s. says _)
  pub passes_settle_all_determined : Determined passes_settle_all.ended (passes_settle_all.clauses 𝓛₀ mem₀ run₀) (λ κs a g x s. says _)
  pub surge_open_determined : Determined surge_open.ended (surge_open.clauses 𝓛₀ mem₀ run₀) (λ κs a g x s. says _)
  pub surge_step_determined : Determined surge_step.ended (surge_step.clauses 𝓛₀ mem₀ run₀) (λ κs a g x s. says _)
  pub surge_step_all_determined : Determined surge_step_all.ended (surge_step_all.clauses 𝓛₀ mem₀ run₀) (λ κs a g x s. says _)
  pub grids_read_grid_determined : Determined grids_read_grid.ended (grids_read_grid.clauses 𝓛₀ mem₀ run₀) (λ κs a g x s. says _)
  pub forcings_read_forcing_determined : Determined forcings_read_forcing.ended (forcings_read_forcing.clauses 𝓛₀ mem₀ run₀) (λ κs a g x s. says _)
  pub saves_save_determined : Determined saves_save.ended (saves_save.clauses 𝓛₀ mem₀ run₀) (λ κs a g x s. says _)
  pub loads_load_determined : Determined loads_load.ended (loads_load.clauses 𝓛₀ mem₀ run₀) (λ κs a g x s. says _)
  pub capi_surge_open_determined : Determined capi_surge_open.ended (capi_surge_open.clauses 𝓛₀ mem₀ run₀) (λ κs a g x s. says _)
  pub capi_surge_step_determined : Determined capi_surge_step.ended (capi_surge_step.clauses 𝓛₀ mem₀ run₀) (λ κs a g x s. says _)
  pub capi_surge_step_all_determined : Determined capi_surge_step_all.ended (capi_surge_step_all.clauses 𝓛₀ mem₀ run₀) (λ κs a g x s. says _)
  pub capi_surge_save_determined : Determined capi_surge_save.ended (capi_surge_save.clauses 𝓛₀ mem₀ run₀) (λ κs a g x s. says _)
  pub capi_surge_load_determined : Determined capi_surge_load.ended (capi_surge_load.clauses 𝓛₀ mem₀ run₀) (λ κs a g x s. says _)
  pub capi_surge_read_forcing_determined : Determined capi_surge_read_forcing.ended (capi_surge_read_forcing.clauses 𝓛₀ mem₀ run₀) (λ κs a g x s. says _)
  pub capi_surge_read_grid_determined : Determined capi_surge_read_grid.ended (capi_surge_read_grid.clauses 𝓛₀ mem₀ run₀) (λ κs a g x s. says _)
  pub refusals_refusal_determined : Determined refusals_refusal.ended (refusals_refusal.clauses 𝓛₀ mem₀ run₀) (λ κs a g x s. says _)
  pub forcelog_cold_determined : Determined forcelog_cold.ended (forcelog_cold.clauses 𝓛₀ mem₀ run₀) (λ κs a g x s. says _)
  pub forcelog_take_determined : Determined forcelog_take.ended (forcelog_take.clauses 𝓛₀ mem₀ run₀) (λ κs a g x s. says _)
  pub forcelog_end_determined : Determined forcelog_end.ended (forcelog_end.clauses 𝓛₀ mem₀ run₀) (λ κs a g x s. says _)

-- the same of a function that is handed a closure, where `answers` holds of the arguments: it says of the closure what it answers
abbrev pub DeterminedWhere : (T : Ended) (c : Clauses w₀.𝓤 T) → Ensures T c → ((κs : Lfts T.signature.lifetimes) → Args T.signature κs → Type 0) → Type 0
DeterminedWhere T c r answers =
    (κs : Lfts T.signature.lifetimes) (a : Args T.signature κs) → answers κs a → (g : (c κs a).ghost) (x y : Res T.signature κs) (v w : Lasts T κs a) →
    told (r κs a g x (at_exit T κs a v)) → told (r κs a g y (at_exit T κs a w)) → (x ≡ y) × (v ≡ w)

-- For every closure: F is its type, b what its bound says of its calls, and c, m, o and d the code of these and of its end, of which no clause speaks. What is
-- said of all types is above the facts that a function can promise: this record is no part of EveryStatement, and tools/promises asks for its proof.
pub record EachDeterminedByItsClosure : Type 2 where
  pub rows_scan_determined : (F : RattleType) (b : scan_calls.Ghosts F) (c m o d : Dict) (f : ℕ → Answer) →
      DeterminedWhere (rows_scan.ended F b c m o d) (rows_scan.clauses F b c m o d 𝓛₀ mem₀ run₀) (λ κs a g x s. says _)
      (λ κs (n, (ask, _)). (i : ℕ) (r : _) → i < n → rows_scan.F-post F b c m o d ask i r → answered r ≡ f i)
  pub rows_scan_tests_determined : (F : RattleType) (b : scan_tests_calls.Ghosts F) (c m o d : Dict) (f : ℕ → Answer) →
      DeterminedWhere (rows_scan_tests.ended F b c m o d) (rows_scan_tests.clauses F b c m o d 𝓛₀ mem₀ run₀) (λ κs a g x s. says _)
      (λ κs (n, (ask, _)). (i : ℕ) (r : _) → i < n → rows_scan_tests.F-post F b c m o d ask i r → answered r ≡ f i)

-- the same of a function whose refusals are of a type E: of its result, and of the lent slices that it writes, of which `left` says that they are the same. What
-- is left of an E that it was handed the type alone says
abbrev pub DeterminedLeft : (T : Ended) (c : Clauses w₀.𝓤 T) → Ensures T c → ((κs : Lfts T.signature.lifetimes) (a : Args T.signature κs) → Lasts T κs a → Lasts T κs a → Type 0) → Type 0
DeterminedLeft T c r left =
    (κs : Lfts T.signature.lifetimes) (a : Args T.signature κs) (g : (c κs a).ghost) (x y : Res T.signature κs) (v w : Lasts T κs a) →
    told (r κs a g x (at_exit T κs a v)) → told (r κs a g y (at_exit T κs a w)) → (x ≡ y) × left κs a v w

-- For every E whose values say refusals: s is what they say, f which are made of a refusal, k which are copies, and c, d and e the code of these. As of a
-- closure, what is said of all types is above the facts that a function can promise.
pub record EachDeterminedByItsErrors : Type 2 where
  pub rows_first_of_any_determined : (E : RattleType) (s : Says.Ghosts E.Denot) (f : From.Ghosts E.Denot Refusal) (k : Clone.Ghosts E.Denot) (c d e : Dict) → SaysOf f.from_gives s.says →
      DeterminedLeft (rows_first.ended E s c f d k e) (rows_first.clauses E s c f d k e 𝓛₀ mem₀ run₀) (λ κs a g x s. says _) (λ κs a v w. ⊤)
  pub mesh_size_rows_of_any_determined : (E : RattleType) (s : Says.Ghosts E.Denot) (f : From.Ghosts E.Denot Refusal) (k : Clone.Ghosts E.Denot) (c d e : Dict) → SaysOf f.from_gives s.says →
      DeterminedLeft (mesh_size_rows.ended E s c f d k e) (mesh_size_rows.clauses E s c f d k e 𝓛₀ mem₀ run₀) (λ κs a g x s. says _) (λ κs a v w. ⊤)
  pub mesh_shape_rows_of_any_determined : (E : RattleType) (s : Says.Ghosts E.Denot) (f : From.Ghosts E.Denot Refusal) (k : Clone.Ghosts E.Denot) (c d e : Dict) → SaysOf f.from_gives s.says →
      DeterminedLeft (mesh_shape_rows.ended E s c f d k e) (mesh_shape_rows.clauses E s c f d k e 𝓛₀ mem₀ run₀) (λ κs a g x s. says _) (λ κs a v w. ⊤)
  pub nodes_mesh_rows_of_any_determined : (E : RattleType) (s : Says.Ghosts E.Denot) (f : From.Ghosts E.Denot Refusal) (k : Clone.Ghosts E.Denot) (c d e : Dict) → SaysOf f.from_gives s.says →
      DeterminedLeft (nodes_mesh_rows.ended E s c f d k e) (nodes_mesh_rows.clauses E s c f d k e 𝓛₀ mem₀ run₀) (λ κs a g x s. says _) (λ κs a v w. ⊤)
  pub nodes_open_rows_of_any_determined : (E : RattleType) (s : Says.Ghosts E.Denot) (f : From.Ghosts E.Denot Refusal) (k : Clone.Ghosts E.Denot) (c d e : Dict) → SaysOf f.from_gives s.says →
      DeterminedLeft (nodes_open_rows.ended E s c f d k e) (nodes_open_rows.clauses E s c f d k e 𝓛₀ mem₀ run₀) (λ κs a g x s. says _) (λ κs a v w. ⊤)
  pub bounds_run_rows_of_any_determined : (E : RattleType) (s : Says.Ghosts E.Denot) (f : From.Ghosts E.Denot Refusal) (k : Clone.Ghosts E.Denot) (c d e : Dict) → SaysOf f.from_gives s.says →
      DeterminedLeft (bounds_run_rows.ended E s c f d k e) (bounds_run_rows.clauses E s c f d k e 𝓛₀ mem₀ run₀) (λ κs a g x s. says _) (λ κs a v w. ⊤)
  pub bounds_forced_rows_of_any_determined : (E : RattleType) (s : Says.Ghosts E.Denot) (f : From.Ghosts E.Denot Refusal) (k : Clone.Ghosts E.Denot) (c d e : Dict) → SaysOf f.from_gives s.says →
      DeterminedLeft (bounds_forced_rows.ended E s c f d k e) (bounds_forced_rows.clauses E s c f d k e 𝓛₀ mem₀ run₀) (λ κs a g x s. says _) (λ κs a v w. ⊤)
  pub bounds_list_rows_of_any_determined : (E : RattleType) (s : Says.Ghosts E.Denot) (f : From.Ghosts E.Denot Refusal) (k : Clone.Ghosts E.Denot) (c d e : Dict) → SaysOf f.from_gives s.says →
      DeterminedLeft (bounds_list_rows.ended E s c f d k e) (bounds_list_rows.clauses E s c f d k e 𝓛₀ mem₀ run₀) (λ κs a g x s. says _) (λ κs a v w. ⊤)
  pub location_survey_of_any_determined : (E : RattleType) (s : Says.Ghosts E.Denot) (f : From.Ghosts E.Denot Refusal) (k : Clone.Ghosts E.Denot) (c d e : Dict) → SaysOf f.from_gives s.says →
      DeterminedLeft (location_survey.ended E s c f d k e) (location_survey.clauses E s c f d k e 𝓛₀ mem₀ run₀) (λ κs a g x s. says _) (λ κs a v w. ⊤)
  pub keeping_add_of_any_determined : (E : RattleType) (s : Says.Ghosts E.Denot) (f : From.Ghosts E.Denot Refusal) (k : Clone.Ghosts E.Denot) (c d e : Dict) → SaysOf f.from_gives s.says →
      DeterminedLeft (keeping_add.ended E s c f d k e) (keeping_add.clauses E s c f d k e 𝓛₀ mem₀ run₀) (λ κs a g x s. says _) (λ κs a v w. v.0 ≡ w.0)
  pub keeping_update_of_any_determined : (E : RattleType) (s : Says.Ghosts E.Denot) (f : From.Ghosts E.Denot Refusal) (k : Clone.Ghosts E.Denot) (c d e : Dict) → SaysOf f.from_gives s.says →
      DeterminedLeft (keeping_update.ended E s c f d k e) (keeping_update.clauses E s c f d k e 𝓛₀ mem₀ run₀) (λ κs a g x s. says _) (λ κs a v w. v.0 ≡ w.0)
  pub passes_settle_of_any_determined : (E : RattleType) (s : Says.Ghosts E.Denot) (f : From.Ghosts E.Denot Refusal) (k : Clone.Ghosts E.Denot) (c d e : Dict) → SaysOf f.from_gives s.says →
      DeterminedLeft (passes_settle.ended E s c f d k e) (passes_settle.clauses E s c f d k e 𝓛₀ mem₀ run₀) (λ κs a g x s. says _) (λ κs a v w. (v.0 ≡ w.0) × (v.1.0 ≡ w.1.0) × (v.1.1.0 ≡ w.1.1.0))

-- "Every call takes every mesh, state, forcing and text": what r reads, a function's `requires`, holds of all arguments
abbrev pub AsksNothing : (T : Ended) (c : Clauses w₀.𝓤 T) → Requires T c → Type 0
AsksNothing T c r = (κs : Lfts T.signature.lifetimes) (a : Args T.signature κs) (g : (c κs a).ghost) → told (r κs a g)

pub record EachCallAsksNothing : Type 0 where
  pub surge_open_asks_nothing : AsksNothing surge_open.ended (surge_open.clauses 𝓛₀ mem₀ run₀) (λ κs a g. nothing)
  pub surge_step_asks_nothing : AsksNothing surge_step.ended (surge_step.clauses 𝓛₀ mem₀ run₀) (λ κs a g. nothing)
  pub surge_step_all_asks_nothing : AsksNothing surge_step_all.ended (surge_step_all.clauses 𝓛₀ mem₀ run₀) (λ κs a g. nothing)
  pub saves_save_asks_nothing : AsksNothing saves_save.ended (saves_save.clauses 𝓛₀ mem₀ run₀) (λ κs a g. nothing)
  pub loads_load_asks_nothing : AsksNothing loads_load.ended (loads_load.clauses 𝓛₀ mem₀ run₀) (λ κs a g. nothing)
  pub grids_read_grid_asks_nothing : AsksNothing grids_read_grid.ended (grids_read_grid.clauses 𝓛₀ mem₀ run₀) (λ κs a g. nothing)
  pub forcings_read_forcing_asks_nothing : AsksNothing forcings_read_forcing.ended (forcings_read_forcing.clauses 𝓛₀ mem₀ run₀) (λ κs a g. nothing)
  pub forcelog_take_asks_nothing : AsksNothing forcelog_take.ended (forcelog_take.clauses 𝓛₀ mem₀ run₀) (λ κs a g. nothing)
  pub forcelog_end_asks_nothing : AsksNothing forcelog_end.ended (forcelog_end.clauses 𝓛₀ mem₀ run₀) (λ κs a g. nothing)
  pub capi_surge_open_asks_nothing : AsksNothing capi_surge_open.ended (capi_surge_open.clauses 𝓛₀ mem₀ run₀) (λ κs a g. nothing)
  pub capi_surge_step_asks_nothing : AsksNothing capi_surge_step.ended (capi_surge_step.clauses 𝓛₀ mem₀ run₀) (λ κs a g. nothing)
  pub capi_surge_step_all_asks_nothing : AsksNothing capi_surge_step_all.ended (capi_surge_step_all.clauses 𝓛₀ mem₀ run₀) (λ κs a g. nothing)
  pub capi_surge_save_asks_nothing : AsksNothing capi_surge_save.ended (capi_surge_save.clauses 𝓛₀ mem₀ run₀) (λ κs a g. nothing)
  pub capi_surge_load_asks_nothing : AsksNothing capi_surge_load.ended (capi_surge_load.clauses 𝓛₀ mem₀ run₀) (λ κs a g. nothing)
  pub capi_surge_read_forcing_asks_nothing : AsksNothing capi_surge_read_forcing.ended (capi_surge_read_forcing.clauses 𝓛₀ mem₀ run₀) (λ κs a g. nothing)
  pub capi_surge_read_grid_asks_nothing : AsksNothing capi_surge_read_grid.ended (capi_surge_read_grid.clauses 𝓛₀ mem₀ run₀) (λ κs a g. nothing)
  pub gauges_gauge_locate_asks_nothing : AsksNothing gauges_gauge_locate.ended (gauges_gauge_locate.clauses 𝓛₀ mem₀ run₀) (λ κs a g. nothing)
  pub gauges_gauge_add_asks_nothing : AsksNothing gauges_gauge_add.ended (gauges_gauge_add.clauses 𝓛₀ mem₀ run₀) (λ κs a g. nothing)
  pub gauges_gauge_elevation_asks_nothing : AsksNothing gauges_gauge_elevation.ended (gauges_gauge_elevation.clauses 𝓛₀ mem₀ run₀) (λ κs a g. nothing)
  pub gauges_gauge_update_asks_nothing : AsksNothing gauges_gauge_update.ended (gauges_gauge_update.clauses 𝓛₀ mem₀ run₀) (λ κs a g. nothing)
  pub gauges_gauge_peak_asks_nothing : AsksNothing gauges_gauge_peak.ended (gauges_gauge_peak.clauses 𝓛₀ mem₀ run₀) (λ κs a g. nothing)
