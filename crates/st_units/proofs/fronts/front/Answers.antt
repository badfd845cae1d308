use Rattle.std.proofs.Common.{◌≡◌, List, length, drop, sym, ap, ◌∙◌}
use Rattle.std.specs.List.{filter}
use Rattle.std.proofs.lemmas.List.{length-map}
use Rattle.token_grammar.specs.declared.token.Token.{Token}
use Rattle.token_grammar.specs.Texts.{lexeme}
use Rattle.token_grammar.specs.Kept.{is_kept}
use Rattle.token_grammar.specs.steps.Parsers.{view}
use Rattle.st_units.proofs.FrontAnswers.{found_ok}
use Rattle.st_units.proofs.fronts.front.Goals as goal

pub returns-in-Ok : goal.returns-in-Ok
returns-in-Ok g c =
    let o = view c.read.new.cursor in
    let text = c.args.tokens.now.text.now in
    let tokens = c.args.tokens.now.list.items in
    let kept : c.as_slice-2.result.now ≡ filter is_kept (drop c.args.from tokens) =
    c.as_slice-2.ensures.value ∙ c.in_ok-kept.ensures ∙ ap
    (λ (ts : List Token). filter is_kept (drop c.args.from ts)) c.as_slice.ensures.value in
    found_ok (g.R.Reader.parser c.args.reader.now) c.args.outer text tokens
    c.as_slice-in-Ok.result.now c.args.from c.in-Ok.tree o
    c.as_slice-2.result.now c.as_slice-in-Ok.ensures.value kept c.in-Ok.ensures
    c.len.result (length c.read.new.cursor.rest.now) c.saturating_sub-read.result
    (c.len.ensures ∙ sym c.as_slice-2.ensures.len)
    (sym (length-map c.read.new.cursor.rest.now (lexeme c.read.new.cursor.text.now)))
    c.saturating_sub-read.ensures
    c.behind.result c.behind.ensures.later c.behind.ensures.within c.behind.ensures.next
    c.behind.ensures.left
