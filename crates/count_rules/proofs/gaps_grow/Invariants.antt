use Rattle.std.specs.Prelude.{◌≡◌, true}
use Rattle.std.specs.Slice.Iter.{windows_size, windows_rest}
use Rattle.model.specs.CountRules.{strictly_ascends, gaps_grow_by}
use Rattle.count_rules.proofs.gaps_grow.Given as goal

abbrev pub invariant-loop-window : goal.invariant-loop-window
invariant-loop-window l =
    (windows_size l.window-iterator ≡ 3) × (strictly_ascends (windows_rest l.window-iterator) ≡ true)
    × (gaps_grow_by l.ratio (windows_rest l.window-iterator) ≡ gaps_grow_by l.ratio l.list)
