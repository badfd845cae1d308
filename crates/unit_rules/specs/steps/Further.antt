-- A step on the way from the code to `Running`: all but the first of several lists.
use Rattle.std.specs.Prelude.{Bool, true, false, List, [], ◌∷◌, drop}

-- all of them where one stands before, else all but the first
abbrev pub behind : {A : Type 0} → Bool → List A → List A
behind true xs = xs
behind false xs = drop 1 xs

-- whether one stands before or among them
abbrev pub any_of : {A : Type 0} → Bool → List A → Bool
any_of any [] = any
any_of any (x ∷ xs) = true
