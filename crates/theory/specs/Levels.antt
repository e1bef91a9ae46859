-- One slot after a convex column: what it chooses by levels, `judged`, how much the column after it rises over each level, `slope_after`, and that
-- this column is convex too, `after_convex`. Level k lies between the places k and k + 1.
use Rattle.std.specs.Prelude.{ℕ, zero, suc, ◌+◌, ◌-◌, ◌*◌, ◌≤◌, ◌<◌, min, ◌≡◌, true, false, ◌⊎◌, List, length}
use Rattle.basics.specs.Core.{sym, fun_ext, ◌∙◌, false≢true, ⊎_elim}
use Rattle.basics.specs.Core.{leb-true, le-leb, add-zero, le_dest, eq-or-lt_of_le, lt_of_not-le, mul-le-mul_left, mul-le-mul_right, arith}
use Rattle.basics.specs.Numbers.{le_or_lt, true_or_false}
use Rattle.model.specs.Instance.{Instance}
use Rattle.model.specs.Counts.{can_serve, operating_cost}
use Rattle.model.specs.Thesis.{switching_price}
use Rattle.laws.specs.Tables.{Convex}
use Rattle.thresholds.specs.Places.{count_at_place, Ascending, count_rises}
use Rattle.thresholds.specs.Thresholds.{level_price, judge}
use Rattle.thresholds.specs.ThresholdLaws.{judge_serves, judge_forced}
use Rattle.theory.specs.Columns.{served_up_to}
use Rattle.theory.specs.Hypotheses.{SlotBest}
use Rattle.theory.specs.SlotColumns.{by_way, after_rises, after_slope}
use Rattle.theory.specs.ConvexValues.{Middle, middle_of_steps, middle_of_kink, falls_before, held_steps_rise}
use Rattle.theory.specs.RunningCosts.{running_convex}
use Rattle.theory.specs.NearLeads.{Sides, Judged, judged_weighed, judged_forced}

-- The modules between the places k and k + 1.
abbrev gap : List ℕ → ℕ → ℕ
gap counts k = count_at_place counts (k + 1) - count_at_place counts k

-- A function of the place is convex at the places k, k + 1 and k + 2, where the distance of two places is the difference of their counts.
abbrev pub Bends : List ℕ → (ℕ → ℕ) → ℕ → Type 0
Bends counts f k = Middle (gap counts k) (gap counts (k + 1)) (f k) (f (k + 1)) (f (k + 1 + 1))

module _
    {i : Instance} {counts : List ℕ} {l : ℕ} {before after chosen : ℕ → ℕ} (asc : Ascending counts i.modules)
    (best : SlotBest i counts l before after chosen)
  where
    -- The operating cost of the load at place k.
    abbrev running : ℕ → ℕ
    running k = operating_cost i (count_at_place counts k) l

    -- The cost of serving at place k, with the column before the slot.
    abbrev served : ℕ → ℕ
    served k = before k + running k

    -- The price of switching on from place k up to place j.
    abbrev climb : ℕ → ℕ → ℕ
    climb k j = switching_price i * (count_at_place counts j - count_at_place counts k)

    -- The cost of serving at place k and of then switching on up to place j.
    abbrev served_to : ℕ → ℕ → ℕ
    served_to = served_up_to i counts l before

    -- Place k serves the load.
    abbrev Serves : ℕ → Type 0
    Serves k = can_serve i (count_at_place counts k) l ≡ true

    -- Place k does not serve the load.
    abbrev Fails : ℕ → Type 0
    Fails k = can_serve i (count_at_place counts k) l ≡ false

    -- One of the two holds.
    serves_or_fails : (k : ℕ) → Serves k ⊎ Fails k
    serves_or_fails k = true_or_false (can_serve i (count_at_place counts k) l)

    -- If place k serves, serving above level k costs less than below it, on the way up to place j.
    abbrev Pays : ℕ → ℕ → Type 0
    Pays j k = Serves k → served_to j (k + 1) < served_to j k

    -- Every place above one that serves does so too.
    serves_above : (k n : ℕ) → k ≤ n → n < length counts → Serves k → Serves n
    unfolding can_serve
    serves_above k n h inside serves =
        le-leb l (count_at_place counts n * i.top_step)
        (omega (
          arith,
          leb-true l (count_at_place counts k * i.top_step) serves,
          mul-le-mul_right i.top_step (count_rises asc k n h inside),
        ))

    -- The price is the same by way of a place between the two.
    climbs : (k n j : ℕ) → k ≤ n → n ≤ j → j < length counts → climb k j ≡ climb n j + climb k n
    climbs k n j low high inside =
        by_way (switching_price i) (count_at_place counts k) (count_at_place counts n) (count_at_place counts j)
        (count_rises asc k n low (omega arith)) (count_rises asc n j high inside)

    -- Down to a place there is nothing to switch on.
    no_climb : (k j : ℕ) → j ≤ k → k < length counts → climb k j ≡ 0
    no_climb k j h inside =
        let none : count_at_place counts j - count_at_place counts k ≡ 0 = omega (arith, count_rises asc j k h inside) in
        rw none (omega arith)

    -- So to a place below a level there is nothing to switch on from either side of it.
    no_climb_over : (k j : ℕ) → j ≤ k → k + 1 < length counts → climb k j ≡ climb (k + 1) j
    no_climb_over k j h inside = no_climb k j h (omega arith) ∙ sym (no_climb (k + 1) j (omega arith) inside)

    -- A place that is its own choice costs what serving there costs.
    own_choice : (j : ℕ) → j < length counts → chosen j ≡ j → after j ≡ served j
    own_choice j here same = omega (arith, rw same at (best.attained j here), no_climb j j (omega arith) here)

    -- From a place that serves on, the operating cost is convex.
    operating_bends :
        Convex i.top_step i.table → (k : ℕ) → k + 1 + 1 < length counts → Serves k → Bends counts running k
    unfolding can_serve
    operating_bends convex k inside serves =
        let x = count_at_place counts k in
        let y = count_at_place counts (k + 1) in
        let z = count_at_place counts (k + 1 + 1) in
        let low : x < y = asc.rises k (omega arith) in
        let second : x + (y - x) ≡ y = omega arith in
        let third : y + (z - y) ≡ z = omega (arith, asc.rises (k + 1) inside) in
        rw (second, third) at (running_convex i convex x (y - x) (z - y) l (leb-true l (x * i.top_step) serves))

    -- On a convex table and after a convex column.
    module _ (convex : Convex i.top_step i.table) (bends : (k : ℕ) → k + 1 + 1 < length counts → Bends counts before k) where
      -- From a place that serves on, the cost of serving is convex.
      served_bends : (k : ℕ) → k + 1 + 1 < length counts → Serves k → Bends counts served k
      served_bends k inside serves = omega (arith, bends k inside, operating_bends convex k inside serves)

      -- The cost of serving stays convex with the switching on up to place j.
      bends_to : (j k : ℕ) → k + 1 + 1 < length counts → Serves k → Bends counts (served_to j) k
      bends_to j k inside serves =
          let low = asc.rises k (omega arith) in
          let high = asc.rises (k + 1) inside in
          let to : ℕ → ℕ = λ n. count_at_place counts j - count_at_place counts n in
          let kink =
          middle_of_kink (switching_price i) (gap counts k) (gap counts (k + 1)) (to k) (to (k + 1)) (to (k + 1 + 1))
          (λ some. omega arith) (omega arith) in
          omega (arith, served_bends k inside serves)

      -- If a level pays, so does the level below it.
      pays_next : (j k : ℕ) → k + 1 + 1 < length counts → Pays j (k + 1) → Pays j k
      pays_next j k inside pays serves =
          let low = asc.rises k (omega arith) in
          falls_before (gap counts k) (gap counts (k + 1)) _ _ _ (omega arith)
          (bends_to j k inside serves) (pays (serves_above k (k + 1) (omega arith) (omega arith) serves))

      -- So does every level further down.
      pays_below : (j n d : ℕ) → n + d + 1 < length counts → Pays j (n + d) → Pays j n
      pays_below j n zero inside pays = rw (add-zero n) at pays
      pays_below j n (suc d) inside pays =
          let next : n + suc d ≡ n + d + 1 = omega arith in
          pays_below j n d (omega arith) (pays_next j (n + d) (omega arith) (rw next at pays))

      -- A slot chooses a place above every level that pays.
      above_paying : (j k : ℕ) → j < length counts → k + 1 < length counts → Pays j k → k < chosen j
      above_paying j k here inside pays =
          lt_of_not-le
          (λ (h : chosen j ≤ k).
          let serves = best.chosen_serves j here in
          let (d, e) = le_dest h in
          let less = pays_below j (chosen j) d (omega arith) (rw (← e) at pays) serves in
          let next : chosen j + 1 < length counts = omega arith in
          let can = serves_above (chosen j) (chosen j + 1) (omega arith) next serves in
          omega (arith, best.attained j here, best.at_most j (chosen j + 1) here next can))

      -- So a level at or above the place that it chooses does not pay.
      not_paying : (j k : ℕ) → j < length counts → k + 1 < length counts → chosen j ≤ k → served_to j k ≤ served_to j (k + 1)
      not_paying j k here inside above =
          ⊎_elim
          (λ (h : served_to j k ≤ served_to j (k + 1)). h)
          (λ (h : served_to j (k + 1) < served_to j k). absurd (omega (arith, above_paying j k here inside (λ _. h))))
          (le_or_lt (served_to j k) (served_to j (k + 1)))

      -- Every level below the place that a slot chooses pays.
      paying_below : (j k : ℕ) → j < length counts → k < chosen j → Pays j k
      paying_below j k here below =
          let (d, e) = le_dest below in
          let inside = best.chosen_in j here in
          let top : chosen j ≡ k + d + 1 = omega arith in
          pays_below j k d (omega arith)
          (λ serves.
          lt_of_not-le
          (λ (h : served_to j (k + d) ≤ served_to j (k + d + 1)).
          let most = best.at_most j (k + d) here (omega arith) serves in
          let least : after j ≡ served_to j (k + d) = omega (arith, rw top at (best.attained j here)) in
          omega (arith, best.smallest j (k + d) here (omega arith) serves least)))

      -- Level k, inside the list.
      module _ (k : ℕ) (inside : k + 1 < length counts) where
        -- On which side of the level the slot's choice is, by the place held after it.
        sides :
            (own : ℕ) → before (k + 1) ≡ before k + own → Serves k → (n : ℕ) → n < length counts →
            Sides k (chosen n) n (level_price i counts k) (running (k + 1)) (running k) own
        sides own e serves n here =
            record {
              both = λ above next. omega (arith, paying_below n k here above serves, climbs k (k + 1) n (omega arith) (omega arith) here);
              falls = λ above next. omega (arith, paying_below n k here above serves, no_climb_over k n next inside);
              rises = λ below next. omega (arith, not_paying n k here inside below, climbs k (k + 1) n (omega arith) (omega arith) here);
              none = λ below next. omega (arith, not_paying n k here inside below, no_climb_over k n next inside);
            }

        -- If the choice for place k is above the level, place k + 1 costs no more than place k.
        flat : k < chosen k → after (k + 1) ≡ after k
        flat above =
            let here : k < length counts = omega arith in
            let c = chosen k in
            omega (
              arith,
              best.attained k here,
              best.at_most (k + 1) c inside (best.chosen_in k here) (best.chosen_serves k here),
              no_climb c k (omega arith) (best.chosen_in k here),
              no_climb c (k + 1) (omega arith) (best.chosen_in k here),
              after_rises best asc k (k + 1) (omega arith) inside,
            )

        -- If the choice for place k + 1 is below the level, that place costs the price of the level more.
        steep : chosen (k + 1) ≤ k → after (k + 1) ≡ after k + level_price i counts k
        steep below =
            let here : k < length counts = omega arith in
            let c = chosen (k + 1) in
            omega (
              arith,
              best.attained (k + 1) inside,
              best.at_most k c here (omega arith) (best.chosen_serves (k + 1) inside),
              climbs c k (k + 1) below (omega arith) inside,
              after_slope best k (k + 1) (omega arith) inside,
            )

        -- No level but this one is at or above the choice for place k and below the choice for place k + 1: every other level pays alike
        -- on the way up to either of the two places.
        between : (c : ℕ) → chosen k ≤ c → c < chosen (k + 1) → Serves c → c ≡ k
        between c low high serves =
            let next : c + 1 < length counts = omega (arith, best.chosen_in (k + 1) inside) in
            let pays = paying_below (k + 1) c inside high serves in
            let stays = not_paying k c (omega arith) next low in
            ⊎_elim
            (λ (h : k ≤ c).
            ⊎_elim
            sym
            (λ (g : k < c). absurd (omega (arith, no_climb_over c k h next, no_climb_over c (k + 1) (omega arith) next)))
            (eq-or-lt_of_le h))
            (λ (h : c < k).
            let from_above = climbs (c + 1) k (k + 1) (omega arith) (omega arith) inside in
            absurd (omega (arith, climbs c k (k + 1) (omega arith) (omega arith) inside)))
            (le_or_lt k c)

        -- So if the choice for place k is below the level and that for place k + 1 above it, the choice for place k is place k.
        lower_own : chosen k ≤ k → k < chosen (k + 1) → after k ≡ served k
        lower_own below above =
            let here : k < length counts = omega arith in
            own_choice k here (between (chosen k) (omega arith) (omega arith) (best.chosen_serves k here))

        -- If place k serves too, the choice for place k + 1 is place k + 1.
        upper_own : Serves k → chosen k ≤ k → k < chosen (k + 1) → after (k + 1) ≡ served (k + 1)
        upper_own serves below above =
            let (d, e) = le_dest above in
            let within = best.chosen_in (k + 1) inside in
            let last = between (k + d) (omega arith) (omega arith) (serves_above k (k + d) (omega arith) (omega arith) serves) in
            own_choice (k + 1) inside (omega arith)

        -- If place k serves, the column after the slot rises over the level as the cost of serving does, but not by less than 0 and not by
        -- more than the price of the level.
        rise : Serves k → after (k + 1) ≡ after k + min (level_price i counts k) (served (k + 1) - served k)
        rise serves =
            ⊎_elim
            (λ (below : chosen k ≤ k).
            ⊎_elim
            (λ (h : chosen (k + 1) ≤ k).
            omega (arith, steep h, not_paying (k + 1) k inside inside h, climbs k (k + 1) (k + 1) (omega arith) (omega arith) inside))
            (λ (h : k < chosen (k + 1)).
            omega (
              arith,
              lower_own below h,
              upper_own serves below h,
              after_rises best asc k (k + 1) (omega arith) inside,
              after_slope best k (k + 1) (omega arith) inside,
            ))
            (le_or_lt (chosen (k + 1)) k))
            (λ (above : k < chosen k).
            omega (arith, flat above, paying_below k k (omega arith) above serves, no_climb_over k k (omega arith) inside))
            (le_or_lt (chosen k) k)

        -- If place k does not serve, the choice is above the level.
        forced : Fails k → (n : ℕ) → n < length counts → k < chosen n
        forced fails n here = above_paying n k here inside (λ serves. absurd (false≢true (sym fails ∙ serves)))

        -- The column after the slot rises over the level by the lead of the slot's verdict on it.
        pub slope_after : (own : ℕ) → before (k + 1) ≡ before k + own → after (k + 1) ≡ after k + (judge i counts k l own).lead
        slope_after own e =
            ⊎_elim
            (λ (serves : Serves k). rw (judge_serves i counts k l own (omega arith) serves) (omega (arith, rise serves)))
            (λ (fails : Fails k). rw (judge_forced i counts k l own (omega arith) fails) (omega (arith, flat (forced fails k (omega arith)))))
            (serves_or_fails k)

        -- The slot's verdict on the level is right about its choice.
        pub judged :
            (own : ℕ) → before (k + 1) ≡ before k + own → (n : ℕ) → n < length counts →
            Judged k (chosen n) n (level_price i counts k) own (judge i counts k l)
        judged own e n here =
            ⊎_elim
            (λ (serves : Serves k).
            rw (fun_ext (λ lead. judge_serves i counts k l lead (omega arith) serves))
            (judged_weighed k (chosen n) n _ _ _ own (sides own e serves n here)))
            (λ (fails : Fails k).
            rw (fun_ext (λ lead. judge_forced i counts k l lead (omega arith) fails))
            (judged_forced k (chosen n) n _ own (forced fails n here)))
            (serves_or_fails k)

      -- The column after the slot is convex.
      pub after_convex : (k : ℕ) → k + 1 + 1 < length counts → Bends counts after k
      after_convex k inside =
          ⊎_elim
          (λ (serves : Serves k).
          rw (rise (k + 1) inside (serves_above k (k + 1) (omega arith) (omega arith) serves), rise k (omega arith) serves)
          (middle_of_steps _ _ (after k) _ _ (held_steps_rise (switching_price i) _ _ _ _ _ (served_bends k inside serves))))
          (λ (fails : Fails k).
          rw (flat k (omega arith) (forced k (omega arith) fails k (omega arith)))
          (omega (arith, mul-le-mul_left (gap counts k) (after_rises best asc k (k + 1 + 1) (omega arith) inside))))
          (serves_or_fails k)
