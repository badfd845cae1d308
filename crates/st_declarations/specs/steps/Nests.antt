-- Function values that parse to a depth of nesting.
use Rattle.std.specs.Prelude.{ℕ, Result}
use Rattle.std.specs.declared.alloc.Global.{Global}
use denote.Ref.{MutBor}
use Rattle.token_grammar.specs.declared.cursor.Cursor.{Cursor}
use Rattle.token_grammar.specs.declared.fault.ParseError.{ParseError}
use Rattle.token_grammar.specs.steps.Parsers.{Parser, Reads, view}

-- the function value reads this parser, at this depth of nesting
pub record Nests {A : Type 0} (parser : ℕ → Parser A) (nest : ℕ) (pre : Global → MutBor Cursor → ℕ
    → Type 0)
    (post : Global → MutBor Cursor → ℕ → Result A ParseError → MutBor Cursor
    → Type 0) : Type 0 where
  pub callable : (alloc : Global) (old : MutBor Cursor) → pre alloc old nest
  pub reads : (alloc : Global) (old new : MutBor Cursor) (r : Result A ParseError)
      → post alloc old nest r new
      → Reads (parser nest (view old.now)) r (view new.now)
