-- What holds of an answer that is that of a function on the text.
use Rattle.std.proofs.Common.{◌≡◌, Option, Some, None, sym, ◌∙◌}
use Rattle.std.specs.Option.{IfSome, IsSome}

-- what the function gives is so, thus what is answered is so
pub if_some : {A : Type 0} (P : A → Type 0) (answer reading : Option A) → answer ≡ reading
    → ((a : A) → reading ≡ Some a → P a) → IfSome answer P
if_some P None reading e sound = search
if_some P (Some a) reading e sound = sound a (sym e)

-- the function gives something, thus there is an answer
pub is_some : {A : Type 0} (answer reading : Option A) (a : A) → answer ≡ reading → reading ≡ Some a
    → IsSome answer
is_some None reading a e found = let h : None ≡ Some a = e ∙ found in cc
is_some (Some b) reading a e found = search
