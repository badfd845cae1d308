-- Which calls of a form in memory are to fail, and how its calls are counted: this product's own rules. The code counts in u64, which
-- stay at their last value.
use Rattle.std.specs.Prelude.{◌≡◌, ℕ, ◌+◌, ◌-◌, ◌^◌, min, Contains}
use Rattle.station_ports.specs.Calls.{IsFaultCounted}
use Rattle.station_ports.specs.declared.faults.FailingCalls.{FailingCalls}

-- the number of the next call, counted from 1; a u64's last value stands for all from there on
abbrev pub next_number : FailingCalls → ℕ
next_number failing = min (failing.calls + 1) (2 ^ 64 - 1)

-- the next call is to fail
abbrev pub IsListed : FailingCalls → Type 0
IsListed failing = Contains failing.numbers.items (next_number failing)

-- A call was counted, and a fault where it failed. The list of calls that are to fail stays.
pub record IsCallCounted (old new : FailingCalls) (Failed : Type 0) : Type 0 where
  pub numbers : new.numbers.items ≡ old.numbers.items
  pub calls : new.calls ≡ next_number old
  pub faults : IsFaultCounted old.count.faults new.count.faults Failed
