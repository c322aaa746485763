-- Each public function's own contract has at most one outcome, and the calls ask nothing of their caller.
use mathlib.Core.Path.{◌≡◌, refl, sym, ap, ◌∙◌}
use Rattle.rows.proofs.RefusalLaws.{answered_one, answered_same}
use Rattle.editions.proofs.LineLaws.{lines_apart}
use Rattle.statements.proofs.KindLaws.{kind_same}
use Rattle.statements.proofs.ResultLaws.{survey_same, found_same, given_same, replied_same, saved_same, took_same}
use Rattle.lines.specs.Building.{Put, put_out}
use Rattle.rows.specs.Refusals.{answered_by, answered}
use Rattle.rows.specs.SaysLaws.{refusals_say}
use Rattle.surge.specs.Lent.{cold_clock, replied, After, after}
use Rattle.passes.specs.Settle.{Settled, settled}
use Rattle.passes.specs.InTurn.{Turns}
use Rattle.passes.specs.SettleAll.{progress_of, turns}
use Rattle.surge.specs.Step.{StepOut, step_out}
use Rattle.surge.specs.Open.{open_replied}
use Rattle.surge.specs.StepAll.{list_replied, list_out}
use Rattle.saves.specs.Save.{SaveOut, saved, save_out}
use Rattle.grids.specs.Grid.{grid, ReadOut, read_out}
use Rattle.forcings.specs.Forcings.{Taken, taken}
use Rattle.looking.specs.Lent.{lent_of}
use Rattle.keeping.specs.Keeping.{given_by, given_of, AddOut, add_out, UpdateOut, update_out}
use Rattle.gauges.specs.Calls as G
use Rattle.gauges.specs.Calls.{given, mark, Located, located, Measured, measured, Peaked, peaked}
use Rattle.capi.specs.Numbers.{clock, answer, reply, list_reply}
use Rattle.statements.specs.Determined.{EachDetermined, EachDeterminedByItsClosure, EachDeterminedByItsErrors, EachCallAsksNothing}

-- the one law: two values that equal a third are equal
same : {A : Type 0} {x y z : A} → x ≡ z → y ≡ z → x ≡ y
same p q = p ∙ sym q

pub each_determined : EachDetermined
each_determined = record {
  rows_answers_accept_determined = λ κs a g x y v w p q. (same p q, refl);
  rows_answers_refuse_determined = λ κs a g x y v w p q. (same p q, refl);
  rows_answers_tested_determined = λ κs a g x y v w p q. (same p q, refl);
  rows_answers_first_determined = λ κs a g x y v w p q. (same p q, refl);
  rows_answers_asked_determined = λ κs a g x y v w p q. (same p q, refl);
  rows_row_number_determined = λ κs a g x y v w p q. (same p q, refl);
  rows_refuse_determined = λ κs a g x y v w p q. (answered_same x y (same p q), refl);
  rows_tested_determined = λ κs a g x y v w p q. (answered_same x y (same p q), refl);
  rows_first_determined = λ c d e κs a g x y v w p q. (answered_same x y (same p q), refl);
  rows_in_range_determined = λ κs a g x y v w p q. (same p q, refl);
  lists_slices_is_runs_determined = λ κs a g x y v w p q. (same p q, refl);
  lists_slices_clear_determined = λ κs a g x y v w p q. (refl, λ i. (same p q i, tt));
  lists_slices_clear_whole_determined = λ κs a g x y v w p q. (refl, λ i. (same p q i, tt));
  lists_slices_copy_determined = λ κs a g x y v w p q. (refl, λ i. (same p q i, (tt, tt)));
  triangle_slope_determined = λ κs a g x y v w p q. (same p q, refl);
  triangle_means_of_determined = λ κs a g x y v w p q. (same p q, refl);
  triangle_advection_of_determined = λ κs a g x y v w p q. (same p q, refl);
  elevation_shares_determined = λ κs a g x y v w p q. (same p q, refl);
  elevation_rise_of_determined = λ κs a g x y v w p q. (same p q, refl);
  velocity_flow_of_determined = λ κs a g x y v w p q. (same p q, refl);
  outcomes_rise_row_determined = λ κs a g x y v w p q. (answered_same x y (same p q), refl);
  outcomes_flow_row_determined = λ κs a g x y v w p q. (answered_same x y (same p q), refl);
  limits_is_node_determined = λ κs a g x y v w p q. (same p q, refl);
  limits_parameters_determined = λ κs a g x y v w p q. (answered_same x y (same p q), refl);
  limits_in_bounds_determined = λ κs a g x y v w p q. (same p q, refl);
  limits_may_count_determined = λ κs a g x y v w p q. (answered_same x y (same p q), refl);
  limits_is_calm_determined = λ κs a g x y v w p q. (same p q, refl);
  limits_elevation_determined = λ κs a g x y v w p q. (answered_same x y (same p q), refl);
  patterns_pattern_of_determined = λ κs a g x y v w p q. (same p q, refl);
  patterns_float_of_determined = λ κs a g x y v w p q. (same p q, refl);
  frames_kind_byte_determined = λ κs a g x y v w p q. (same p q, refl);
  frames_digits_tallied_determined = λ κs a g x y v w p q. (same p q, refl);
  frames_reading_value_determined = λ κs a g x y v w p q. (same p q, refl);
  frames_reading_float_at_determined = λ κs a g x y v w p q. (same p q, refl);
  frames_reading_values_determined = λ κs a g x y v w p q. (same p q, refl);
  frames_reading_part_determined = λ κs a g x y v w p q. (same p q, refl);
  frames_reading_starts_determined = λ κs a g x y v w p q. (same p q, refl);
  faults_fault_determined = λ κs a g x y v w p q. (answered_same x y (same p q), refl);
  editions_edition_of_determined = λ κs a g x y v w p q. (lines_apart x y (same p q), refl);
  editions_due_determined = λ κs a g x y v w p q.
      (λ i. record { digits = same p.0 q.0 i; kind = kind_same x.kind y.kind (same p.1 q.1) i }, refl);
  editions_node_wind_determined = λ κs a g x y v w p q. (same p q, refl);
  editions_line_row_determined = λ κs a g x y v w p q. (answered_same x y (same p q), refl);
  lines_line_begin_determined = λ κs a g x y v w p q. (same p q, refl);
  lines_line_append_determined = λ κs a g x y v w p q. (same p q, refl);
  lines_line_seal_determined = λ κs a g x y v w p q. (same p q, refl);
  lines_put_determined = λ κs a g x y v w p q.
      let e : put_out x v.0 ≡ put_out y w.0 = same p q in
      (ap (λ (o : Put). o.next) e, λ i. ((e i).text, (tt, (tt, tt))));
  crossing_number_at_determined = λ κs a g x y v w p q. (same p.0 q.0, refl);
  crossing_put_number_determined = λ κs a g x y v w p q. (refl, λ i. (same p q i, (tt, (tt, (tt, tt)))));
  crossing_pattern_32_determined = λ κs a g x y v w p q. (same p q, refl);
  crossing_int_at_determined = λ κs a g x y v w p q. (same p q, refl);
  crossing_ints_into_determined = λ κs a g x y v w p q. (refl, λ i. (same p q i, (tt, tt)));
  crossing_words_into_determined = λ κs a g x y v w p q. (refl, λ i. (same p q i, (tt, tt)));
  crossing_floats_into_determined = λ κs a g x y v w p q. (refl, λ i. (same p q i, (tt, tt)));
  geometry_sides_of_determined = λ κs a g x y v w p q. (same p q, refl);
  geometry_all_near_determined = λ κs a g x y v w p q. (same p q, refl);
  geometry_twice_area_determined = λ κs a g x y v w p q. (same p q, refl);
  geometry_sum_of_determined = λ κs a g x y v w p q. (same p q, refl);
  mesh_reading_corners_at_determined = λ κs a g x y v w p q. (same p q, refl);
  mesh_reading_corners_of_determined = λ κs a g x y v w p q. (same p q, refl);
  mesh_reading_places_at_determined = λ κs a g x y v w p q. (same p q, refl);
  mesh_size_rows_determined = λ c d e κs a g x y v w p q. (answered_same x y (same p q), refl);
  mesh_shape_rows_determined = λ c d e κs a g x y v w p q. (answered_same x y (same p q), refl);
  legs_leg_rows_determined = λ κs a g x y v w p q. (answered_same x y (same p q), refl);
  areas_twice_areas_determined = λ κs a g x y v w p q. (same p q, refl);
  nodes_mesh_rows_determined = λ c d e κs a g x y v w p q. (answered_same x y (same p q), refl);
  nodes_open_rows_determined = λ c d e κs a g x y v w p q. (answered_same x y (same p q), refl);
  bounds_run_rows_determined = λ c d e κs a g x y v w p q. (answered_same x y (same p q), refl);
  bounds_forced_rows_determined = λ c d e κs a g x y v w p q. (answered_same x y (same p q), refl);
  bounds_weather_rows_determined = λ κs a g x y v w p q. (answered_same x y (same p q), refl);
  bounds_list_rows_determined = λ c d e κs a g x y v w p q. (answered_same x y (same p q), refl);
  location_survey_determined = λ c d e κs a g x y v w p q. (survey_same refusals_say x y (same p q), refl);
  looking_look_determined = λ κs a g x y v w p q. (survey_same refusals_say x y (same p q), refl);
  looking_look_at_determined = λ κs (lent, (point, _)) g x y v w p q. (found_same (lent_of lent.now) x y (same p q), refl);
  keeping_point_at_determined = λ κs a g x y v w p q. (same p q, refl);
  keeping_mark_at_determined = λ κs a g x y v w p q. (same p q, refl);
  keeping_points_determined = λ κs a g x y v w p q. (same p q, refl);
  keeping_number_rows_determined = λ κs a g x y v w p q. (answered_same x y (same p q), refl);
  keeping_add_determined = λ c d e κs a g x y v w p q.
      let e : add_out (given_of x) v.0 ≡ add_out (given_of y) w.0 = same p q in
      (given_same refusals_say x y (ap (λ (o : AddOut). o.given) e), λ i. ((e i).left, (tt, (tt, (tt, tt)))));
  keeping_update_determined = λ c d e κs a g x y v w p q.
      let e : update_out (answered x) v.0 ≡ update_out (answered y) w.0 = same p q in
      (answered_same x y (ap (λ (o : UpdateOut). o.answer) e), λ i. ((e i).left, (tt, (tt, (tt, (tt, tt))))));
  gauges_gauge_locate_determined = λ κs a g x y v w p q.
      let e : located (G.answer x v.1.0 v.1.1.0) v.0 ≡ located (G.answer y w.1.0 w.1.1.0) w.0 = same p q in (
        ap (λ (o : Located). o.answer.number) e,
        λ i. ((e i).triangle, ((e i).answer.place, ((e i).answer.value, (tt, (tt, (tt, (tt, (tt, (tt, (tt, (tt, (tt, (tt, (tt, (tt, tt))))))))))))))),
      );
  gauges_gauge_add_determined = λ κs a g x y v w p q.
      let e : add_out (given (G.answer x v.1.1.0 v.1.1.1.0) v.1.0) v.0 ≡ add_out (given (G.answer y w.1.1.0 w.1.1.1.0) w.1.0) w.0 = same p q in (
        ap (λ (o : AddOut). o.given.answer.number) e,
        λ i. ((e i).left, ((e i).given.gauge, ((e i).given.answer.place, ((e i).given.answer.value, (tt, (tt, (tt, (tt, (tt, (tt, (tt, (tt, (tt, (tt, (tt, (tt, tt)))))))))))))))),
      );
  gauges_gauge_elevation_determined = λ κs a g x y v w p q.
      let e : measured (G.answer x v.1.0 v.1.1.0) v.0 ≡ measured (G.answer y w.1.0 w.1.1.0) w.0 = same p q in (
        ap (λ (o : Measured). o.answer.number) e,
        λ i. ((e i).level, ((e i).answer.place, ((e i).answer.value, (tt, (tt, (tt, (tt, (tt, (tt, (tt, (tt, (tt, (tt, (tt, (tt, tt))))))))))))))),
      );
  gauges_gauge_update_determined = λ κs a g x y v w p q.
      let e : update_out (G.answer x v.1.0 v.1.1.0) v.0 ≡ update_out (G.answer y w.1.0 w.1.1.0) w.0 = same p q in (
        ap (λ (o : UpdateOut). o.answer.number) e,
        λ i. ((e i).left, ((e i).answer.place, ((e i).answer.value, (tt, (tt, (tt, (tt, (tt, (tt, (tt, (tt, (tt, (tt, (tt, tt)))))))))))))),
      );
  gauges_gauge_peak_determined = λ κs a g x y v w p q.
      let e : peaked (G.answer x v.1.1.1.0 v.1.1.1.1.0) (mark v.0 v.1.0 v.1.1.0) ≡ peaked (G.answer y w.1.1.1.0 w.1.1.1.1.0) (mark w.0 w.1.0 w.1.1.0) = same p q in (
        ap (λ (o : Peaked). o.answer.number) e,
        λ i. ((e i).mark.seen, ((e i).mark.peak, ((e i).mark.step, ((e i).answer.place, ((e i).answer.value, (tt, (tt, tt))))))),
      );
  passes_settle_determined = λ c d e κs a g x y v w p q.
      let e : settled (answered x) v.0 v.1.0 v.1.1.0 ≡ settled (answered y) w.0 w.1.0 w.1.1.0 = same p q in (
        answered_same x y (ap (λ (o : Settled). o.answer) e),
        λ i. ((e i).rooms.next, ((e i).rooms.work, ((e i).rooms.sums, (tt, (tt, (tt, (tt, (tt, tt)))))))),
      );
  passes_settle_all_determined = λ κs a g x y v w p q.
      let e : turns (progress_of x) v.0 v.1.0 v.1.1.0 ≡ turns (progress_of y) w.0 w.1.0 w.1.1.0 = same p q in (
        λ i. record { asked = answered_same x.asked y.asked (ap (λ (o : Turns). o.last.answer) e) i; step = (e i).last.step; accepted = (e i).accepted },
        λ i. ((e i).last.rooms.next, ((e i).last.rooms.work, ((e i).last.rooms.sums, (tt, (tt, (tt, (tt, (tt, tt)))))))),
      );
  surge_open_determined = λ κs a g x y v w p q.
      let e : after (open_replied x) v.0 ≡ after (open_replied y) w.0 = same p q in
      (λ i. record { asked = answered_same x.asked y.asked (ap (λ (o : After). o.reply.answer) e) i; clock = (e i).reply.clock }, λ i. ((e i).state, (tt, (tt, tt))));
  surge_step_determined = λ κs (next, (work, (sums, (state, (f, (m, (parameters, (clock, _)))))))) g x y v w p q.
      let e : step_out (replied clock x) v.0 v.1.0 v.1.1.0 ≡ step_out (replied clock y) w.0 w.1.0 w.1.1.0 = same p q in (
        replied_same clock x y (ap (λ (o : StepOut). o.reply) e),
        λ i. ((e i).rooms.next, ((e i).rooms.work, ((e i).rooms.sums, (tt, (tt, (tt, (tt, (tt, tt)))))))),
      );
  surge_step_all_determined = λ κs a g x y v w p q.
      let e : list_out (list_replied x) v.0 v.1.0 v.1.1.0 ≡ list_out (list_replied y) w.0 w.1.0 w.1.1.0 = same p q in (
        λ i. record { asked = answered_same x.asked y.asked (ap (λ (o : Turns). o.last.answer) e) i; clock = record { step = (e i).last.step }; accepted = (e i).accepted },
        λ i. ((e i).last.rooms.next, ((e i).last.rooms.work, ((e i).last.rooms.sums, (tt, (tt, (tt, (tt, (tt, tt)))))))),
      );
  grids_read_grid_determined = λ κs a g x y v w p q.
      let e : read_out (answered x) (grid v.0 v.1.0 v.1.1.0 v.1.1.1.0) ≡ read_out (answered y) (grid w.0 w.1.0 w.1.1.0 w.1.1.1.0) = same p q in
      (answered_same x y (ap (λ (o : ReadOut). o.answer) e), λ i. ((e i).rooms.x, ((e i).rooms.y, ((e i).rooms.h, ((e i).rooms.tri, (tt, tt))))));
  forcings_read_forcing_determined = λ κs a g x y v w p q.
      let e : taken (answered x) v.0 ≡ taken (answered y) w.0 = same p q in
      (answered_same x y (ap (λ (o : Taken). o.answer) e), λ i. ((e i).room, (tt, (tt, tt))));
  saves_save_determined = λ κs a g x y v w p q.
      let e : save_out (saved x) v.0 ≡ save_out (saved y) w.0 = same p q in
      (saved_same x y (ap (λ (o : SaveOut). o.answer) e), λ i. ((e i).text, (tt, (tt, (tt, (tt, tt))))));
  loads_load_determined = λ κs a g x y v w p q.
      let e : after (replied cold_clock x) v.0 ≡ after (replied cold_clock y) w.0 = same (p cold_clock) (q cold_clock) in
      (replied_same cold_clock x y (ap (λ (o : After). o.reply) e), λ i. ((e i).state, (tt, (tt, (tt, tt)))));
  capi_surge_open_determined = λ κs a g x y v w p q.
      let e : after (reply (answer x v.1.0 v.1.1.0) (clock v.1.1.1.0)) v.0 ≡ after (reply (answer y w.1.0 w.1.1.0) (clock w.1.1.1.0)) w.0 = same p q in (
        ap (λ (o : After). o.reply.answer.number) e,
        λ i. ((e i).state, ((e i).reply.answer.place, ((e i).reply.answer.value, ((e i).reply.clock.step, (tt, (tt, (tt, (tt, (tt, (tt, (tt, (tt, (tt, (tt, tt)))))))))))))),
      );
  capi_surge_step_determined = λ κs a g x y v w p q.
      let e : step_out (reply (answer x v.1.1.1.0 v.1.1.1.1.0) (clock v.1.1.1.1.1.0)) v.0 v.1.0 v.1.1.0 ≡ step_out (reply (answer y w.1.1.1.0 w.1.1.1.1.0) (clock w.1.1.1.1.1.0)) w.0 w.1.0 w.1.1.0 = same p q in (
        ap (λ (o : StepOut). o.reply.answer.number) e,
        λ i. ((e i).rooms.next, ((e i).rooms.work, ((e i).rooms.sums, ((e i).reply.answer.place, ((e i).reply.answer.value, ((e i).reply.clock.step, (tt, (tt, (tt, (tt, (tt, (tt, (tt, (tt, (tt, (tt, (tt, (tt, tt)))))))))))))))))),
      );
  capi_surge_step_all_determined = λ κs a g x y v w p q.
      let e : list_out (list_reply (reply (answer x v.1.1.1.0 v.1.1.1.1.0) (clock v.1.1.1.1.1.0)) v.1.1.1.1.1.1.0) v.0 v.1.0 v.1.1.0 ≡ list_out (list_reply (reply (answer y w.1.1.1.0 w.1.1.1.1.0) (clock w.1.1.1.1.1.0)) w.1.1.1.1.1.1.0) w.0 w.1.0 w.1.1.0 = same p q in (
        ap (λ (o : Turns). o.last.answer.number) e,
        λ i. ((e i).last.rooms.next, ((e i).last.rooms.work, ((e i).last.rooms.sums, ((e i).last.answer.place, ((e i).last.answer.value, ((e i).last.step, ((e i).accepted, (tt, (tt, (tt, (tt, (tt, (tt, (tt, (tt, (tt, (tt, (tt, (tt, tt))))))))))))))))))),
      );
  capi_surge_save_determined = λ κs a g x y v w p q.
      let e : save_out (answer x v.1.0 v.1.1.0) v.0 ≡ save_out (answer y w.1.0 w.1.1.0) w.0 = same p q in (
        ap (λ (o : SaveOut). o.answer.number) e,
        λ i. ((e i).text, ((e i).answer.place, ((e i).answer.value, (tt, (tt, (tt, (tt, (tt, (tt, (tt, (tt, (tt, (tt, (tt, (tt, tt))))))))))))))),
      );
  capi_surge_load_determined = λ κs a g x y v w p q.
      let e : after (reply (answer x v.1.0 v.1.1.0) (clock v.1.1.1.0)) v.0 ≡ after (reply (answer y w.1.0 w.1.1.0) (clock w.1.1.1.0)) w.0 = same p q in (
        ap (λ (o : After). o.reply.answer.number) e,
        λ i. ((e i).state, ((e i).reply.answer.place, ((e i).reply.answer.value, ((e i).reply.clock.step, (tt, (tt, (tt, (tt, (tt, (tt, (tt, (tt, (tt, (tt, (tt, tt))))))))))))))),
      );
  capi_surge_read_forcing_determined = λ κs a g x y v w p q.
      let e : taken (answer x v.1.0 v.1.1.0) v.0 ≡ taken (answer y w.1.0 w.1.1.0) w.0 = same p q in (
        ap (λ (o : Taken). o.answer.number) e,
        λ i. ((e i).room, ((e i).answer.place, ((e i).answer.value, (tt, (tt, tt))))),
      );
  capi_surge_read_grid_determined = λ κs a g x y v w p q.
      let e : read_out (answer x v.1.1.1.1.0 v.1.1.1.1.1.0) (grid v.0 v.1.0 v.1.1.0 v.1.1.1.0) ≡ read_out (answer y w.1.1.1.1.0 w.1.1.1.1.1.0) (grid w.0 w.1.0 w.1.1.0 w.1.1.1.0) = same p q in (
        ap (λ (o : ReadOut). o.answer.number) e,
        λ i. ((e i).rooms.x, ((e i).rooms.y, ((e i).rooms.h, ((e i).rooms.tri, ((e i).answer.place, ((e i).answer.value, (tt, tt))))))),
      );
  refusals_refusal_determined = λ κs a g x y v w p q. (same p q, refl);
  forcelog_cold_determined = λ κs a g x y v w p q. (same p q, refl);
  forcelog_take_determined = λ κs (text, (log, _)) g x y v w p q. (took_same log.now x y (same p q), refl);
  forcelog_end_determined = λ κs a g x y v w p q.
      let e : save_out (saved x) v.0 ≡ save_out (saved y) w.0 = same p q in
      (saved_same x y (ap (λ (o : SaveOut). o.answer) e), λ i. ((e i).text, (tt, tt)));
}

pub each_determined_by_its_closure : EachDeterminedByItsClosure
each_determined_by_its_closure = record {
  rows_scan_determined = λ F b c m o d f κs a answers g x y v w p q. (answered_same x y (same (p f answers) (q f answers)), refl);
  rows_scan_tests_determined = λ F b c m o d f κs a answers g x y v w p q. (answered_same x y (same (p f answers) (q f answers)), refl);
}

pub each_determined_by_its_errors : EachDeterminedByItsErrors
each_determined_by_its_errors = record {
  rows_first_of_any_determined = λ E s f k c d e law κs a g x y v w p q. (answered_one law x y (same p q), tt);
  mesh_size_rows_of_any_determined = λ E s f k c d e law κs a g x y v w p q. (answered_one law x y (same p q), tt);
  mesh_shape_rows_of_any_determined = λ E s f k c d e law κs a g x y v w p q. (answered_one law x y (same p q), tt);
  nodes_mesh_rows_of_any_determined = λ E s f k c d e law κs a g x y v w p q. (answered_one law x y (same p q), tt);
  nodes_open_rows_of_any_determined = λ E s f k c d e law κs a g x y v w p q. (answered_one law x y (same p q), tt);
  bounds_run_rows_of_any_determined = λ E s f k c d e law κs a g x y v w p q. (answered_one law x y (same p q), tt);
  bounds_forced_rows_of_any_determined = λ E s f k c d e law κs a g x y v w p q. (answered_one law x y (same p q), tt);
  bounds_list_rows_of_any_determined = λ E s f k c d e law κs a g x y v w p q. (answered_one law x y (same p q), tt);
  location_survey_of_any_determined = λ E s f k c d e law κs a g x y v w p q. (survey_same law x y (same p q), tt);
  keeping_add_of_any_determined = λ E s f k c d e law κs a g x y v w p q.
      let e : add_out (given_by s.says x) v.0 ≡ add_out (given_by s.says y) w.0 = same p q in
      (given_same law x y (ap (λ (o : AddOut). o.given) e), λ i. (e i).left);
  keeping_update_of_any_determined = λ E s f k c d e law κs a g x y v w p q.
      let e : update_out (answered_by s.says x) v.0 ≡ update_out (answered_by s.says y) w.0 = same p q in
      (answered_one law x y (ap (λ (o : UpdateOut). o.answer) e), λ i. (e i).left);
  passes_settle_of_any_determined = λ E s f k c d e law κs a g x y v w p q.
      let e : settled (answered_by s.says x) v.0 v.1.0 v.1.1.0 ≡ settled (answered_by s.says y) w.0 w.1.0 w.1.1.0 = same p q in (
        answered_one law x y (ap (λ (o : Settled). o.answer) e),
        (λ i. (e i).rooms.next, λ i. (e i).rooms.work, λ i. (e i).rooms.sums),
      );
}

pub each_call_asks_nothing : EachCallAsksNothing
each_call_asks_nothing = record {
  surge_open_asks_nothing = λ _ _ _. tt;
  surge_step_asks_nothing = λ _ _ _. tt;
  surge_step_all_asks_nothing = λ _ _ _. tt;
  saves_save_asks_nothing = λ _ _ _. tt;
  loads_load_asks_nothing = λ _ _ _. tt;
  grids_read_grid_asks_nothing = λ _ _ _. tt;
  forcings_read_forcing_asks_nothing = λ _ _ _. tt;
  forcelog_take_asks_nothing = λ _ _ _. tt;
  forcelog_end_asks_nothing = λ _ _ _. tt;
  capi_surge_open_asks_nothing = λ _ _ _. tt;
  capi_surge_step_asks_nothing = λ _ _ _. tt;
  capi_surge_step_all_asks_nothing = λ _ _ _. tt;
  capi_surge_save_asks_nothing = λ _ _ _. tt;
  capi_surge_load_asks_nothing = λ _ _ _. tt;
  capi_surge_read_forcing_asks_nothing = λ _ _ _. tt;
  capi_surge_read_grid_asks_nothing = λ _ _ _. tt;
  gauges_gauge_locate_asks_nothing = λ _ _ _. tt;
  gauges_gauge_add_asks_nothing = λ _ _ _. tt;
  gauges_gauge_elevation_asks_nothing = λ _ _ _. tt;
  gauges_gauge_update_asks_nothing = λ _ _ _. tt;
  gauges_gauge_peak_asks_nothing = λ _ _ _. tt;
}
