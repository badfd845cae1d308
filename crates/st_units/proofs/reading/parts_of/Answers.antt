use Rattle.std.proofs.Common.{◌≡◌, ◌≢◌, List, Ok, Err, subst, ◌∙◌}
use Rattle.token_grammar.specs.declared.fault.ParseError.TheVariants.{Memory}
use Rattle.token_grammar.specs.declared.token.Token.{Token}
use Rattle.token_grammar.specs.Texts.{lexemes}
use Rattle.token_grammar.specs.steps.Parsers.{view}
use Rattle.token_grammar.specs.Kept.{words_of}
use Rattle.token_grammar.proofs.Laws.{input}
use Rattle.st_units.specs.steps.Parse as p
use Rattle.st_units.proofs.FileAnswers.{answered, refused}
use Rattle.st_units.proofs.reading.parts_of.Goals as goal

pub returns-in-Ok : goal.returns-in-Ok
returns-in-Ok c =
    let text = c.args.tokens.text.now in
    λ all kept.
    let e : p.file (input 0 0 (words_of text all)) ≡ Ok (c.in-Ok.parts, view c.file.new.cursor) =
    subst (λ (ts : List Token). p.file (input 0 0 (lexemes text ts))
    ≡ Ok (c.in-Ok.parts, view c.file.new.cursor))
    (c.as_slice.ensures.value ∙ kept) c.in-Ok.ensures in
    answered (words_of text all) (Ok c.in-Ok.parts) (view c.file.new.cursor) e

pub returns : goal.returns
returns c =
    let text = c.args.tokens.text.now in
    λ all kept.
    let rest = (view c.file.new.cursor).rest in
    let e : c.in-Err.error ≢ Memory →
    p.file (input 0 0 (words_of text all))
    ≡ Err (record { code = c.in-Err.error; rest = rest }) =
    λ some. subst
    (λ (ts : List Token). p.file (input 0 0 (lexemes text ts))
    ≡ Err (record { code = c.in-Err.error; rest = rest }))
    (c.as_slice.ensures.value ∙ kept) (c.in-Err.ensures some) in
    rw c.fault_at.ensures (refused text all c.in-Err.error rest
    (answered (words_of text all) (Err c.in-Err.error) (view c.file.new.cursor) e))
