use Rattle.std.proofs.Common.{◌≡◌, ◌≤◌, ◌*◌, ◌^◌, map, take, sum_by}
use Rattle.concurrency_pool.specs.Usages.{usage_of, reserved_by}
use Rattle.concurrency_pool.proofs.pool.Pool.open.Given as goal

abbrev pub invariant-loop-function : goal.invariant-loop-function
invariant-loop-function l = record {
  functions : l.functions.items ≡ map usage_of (take l.function-index l.config.functions);
  reserved : l.reserved ≡ sum_by reserved_by l.functions.items;
  few : l.reserved ≤ l.function-index * 2 ^ 32;
}
