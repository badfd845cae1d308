use Rattle.std.proofs.Common.{◌≡◌, ℕ, ◌<◌, length, true, false, nat_eq, arith}
use Rattle.std.specs.Str.Lossy.{utf8_valid_len}
use Rattle.std.proofs.lemmas.Str.{utf8_valid_len-IsUtf8}
use Rattle.project_keeper.proofs.names.is_utf8.Goals as goal

same : (m n : ℕ) → m ≡ n → true ≡ nat_eq m n
same m n e = grind (arith, e)

less : (m n : ℕ) → m < n → false ≡ nat_eq m n
less m n l = grind (arith, l)

pub returns-in-Ok : goal.returns-in-Ok
returns-in-Ok c = same (utf8_valid_len c.args.bytes.now) (length c.args.bytes.now) (utf8_valid_len-IsUtf8 c.args.bytes.now c.in-Ok.ensures.cases.1)

pub returns-in-Err : goal.returns-in-Err
returns-in-Err c = less (utf8_valid_len c.args.bytes.now) (length c.args.bytes.now) (rw c.in-Err.ensures.valid_len at c.in-Err.ensures.cases.1.short)
