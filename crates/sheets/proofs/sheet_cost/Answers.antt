use Rattle.std.specs.Prelude.{◌+◌, ◌*◌, ◌≤◌}
use Rattle.basics.specs.Core.{arith}
use Rattle.sheets.proofs.Totals.{first_ready, later_ready, rows_paired, last_priced, rows_fit, total_small, sheet_empty, sheet_whole}
use Rattle.sheets.proofs.sheet_cost.Goals as goal

pub returns-then-card-eq0 : goal.returns-then-card-eq0
returns-then-card-eq0 c = search sheet_empty

pub row_start_cost-start-requires : goal.row_start_cost-start-requires
row_start_cost-start-requires c = search first_ready

pub rows_cost-rest-requires : goal.rows_cost-rest-requires
rows_cost-rest-requires c = record {
  bytes_ready = search later_ready;
  earlier_len = search rows_paired;
}

pub row_stop_cost-stop-requires : goal.row_stop_cost-stop-requires
row_stop_cost-stop-requires c = search last_priced

pub overflow_add-result : goal.overflow_add-result
overflow_add-result c = search rows_fit

pub overflow_add-result-2 : goal.overflow_add-result-2
overflow_add-result-2 c =
    let start = c.row_start_cost-start.result in
    let rest = c.rows_cost-rest.result in
    let small : start + rest + c.row_stop_cost-stop.result ≤ 3 * 204800 * 501000000 = search total_small in
    record { fits = omega arith }

pub returns : goal.returns
returns c = search sheet_whole
