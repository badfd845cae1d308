-- The parser of names with commas between them reads its grammar.
use Rattle.std.proofs.Common.{[], ◌∷◌, ◌++◌, zero, refl}
use Rattle.token_grammar.specs.declared.token.TokenKind.TheVariants as k
use Rattle.token_grammar.proofs.Laws.{Exact}
use Rattle.token_grammar.proofs.Starts.{sees_any, IsLevel, Opens, starts_bind}
use Rattle.token_grammar.proofs.Forms.{Form, Inner}
use Rattle.st_expr.specs.Grammar as g
use Rattle.st_expr.specs.steps.Parse as p
use Rattle.st_expr.proofs.Leaves.{form_identifier, level_identifier}
use Rattle.st_expr.proofs.Lists.{Here, exact_commas, level_commas}

pub exact_names : (n : _) → Exact (Inner n) p.names g.names (sees_any (k.Comma ∷ []))
unfolding p.names p.more_names
exact_names n = exact_commas n [] (form_identifier {V = Inner n}).exact refl level_identifier

pub form_names : Form Here p.names g.names (k.Name ∷ []) (k.Comma ∷ [])
form_names = record {
  exact = exact_names 257;
  starts = starts_bind (form_identifier {V = Here}).starts;
  opens = opens_names;
}
  where
    opens_names : Opens g.names (k.Name ∷ [])
    opens_names = record {
      word = λ d t r e.
          let (at, w, x, m, l) = (form_identifier {V = Here}).opens.word d t r e in
          (at, w ++ [], x ∷ [], m, ((t, at) ∷ w, [], x, m, refl, l, (zero, (refl, refl, refl))));
    }

pub level_names : IsLevel g.names
level_names = level_commas level_identifier
