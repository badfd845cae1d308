use Rattle.std.proofs.Common.{◌≡◌, ◌+◌, ℕ, List, inr, true, get_or, drop, refl, sym, ap, subst, ◌∙◌, arith}
use Rattle.std.proofs.lemmas.List.{drop_more, length-drop}
use Rattle.std.specs.Result.{is_ok}
use Rattle.st_lexer.specs.declared.front.Found.TheVariants as found
use Rattle.st_lexer.specs.Bytes.{is_white}
use Rattle.st_lexer.specs.Cut.{IsCutTo, mark_length}
use Rattle.st_lexer.proofs.Standing.{StandsToken}
use Rattle.st_lexer.proofs.Durations.{drop_add}
use Rattle.st_lexer.proofs.Cuts.{cut_white, cut_token, stands_at}
use Rattle.st_lexer.proofs.cut.tokens.Goals as goal

pub cut-preserved-then-is_white : goal.cut-preserved-then-is_white
cut-preserved-then-is_white c =
    let text = c.args.text.now in
    let at = c.cut.at in
    let here : is_white (get_or text at 0) ≡ true = cc in
    record {
      within = omega arith;
      utf8 = c.cut.invariant.utf8;
      so_far = cut_white (mark_length text) (drop (mark_length text) text) c.cut.list.items at (get_or text at 0) (drop (at + 1) text)
          (subst (λ (r : List ℕ). IsCutTo text c.cut.list.items at r) (drop_more text at 0 c.cut-test.true) c.cut.invariant.so_far) here;
    }

pub returns-in-Fault : goal.returns-in-Fault
returns-in-Fault c =
    let text = c.args.text.now in
    let at = c.cut.at in
    record {
      answers = inr (record {
        utf8 = c.cut.invariant.utf8;
        tokens = c.cut.list.items;
        rest = drop at text;
        cut = c.cut.invariant.so_far;
        faulty = stands_at text at (found.Fault c.in-Fault.code) c.cut-test.true (sym c.if-is_white.ensures) c.in-Fault.ensures;
      });
    }

pub overflow_add-token : goal.overflow_add-token
overflow_add-token c =
    let s : StandsToken c.in-Token.kind c.in-Token.length (drop c.cut.at c.args.text.now) = stands_at c.args.text.now c.cut.at (found.Token c.in-Token.kind c.in-Token.length) c.cut-test.true (sym c.if-is_white.ensures) c.in-Token.ensures in
    omega (arith, s.within, length-drop c.cut.at c.args.text.now)

pub overflow_add-at-in-Token : goal.overflow_add-at-in-Token
overflow_add-at-in-Token c =
    let s : StandsToken c.in-Token.kind c.in-Token.length (drop c.cut.at c.args.text.now) = stands_at c.args.text.now c.cut.at (found.Token c.in-Token.kind c.in-Token.length) c.cut-test.true (sym c.if-is_white.ensures) c.in-Token.ensures in
    omega (arith, s.within, length-drop c.cut.at c.args.text.now)

pub cut-smaller : goal.cut-smaller
cut-smaller c =
    let s : StandsToken c.in-Token.kind c.in-Token.length (drop c.cut.at c.args.text.now) = stands_at c.args.text.now c.cut.at (found.Token c.in-Token.kind c.in-Token.length) c.cut-test.true (sym c.if-is_white.ensures) c.in-Token.ensures in
    omega (arith, s.within, s.some, length-drop c.cut.at c.args.text.now)

pub cut-preserved : goal.cut-preserved
cut-preserved c =
    let text = c.args.text.now in
    let at = c.cut.at in
    let s : StandsToken c.in-Token.kind c.in-Token.length (drop at text) = stands_at text at (found.Token c.in-Token.kind c.in-Token.length) c.cut-test.true (sym c.if-is_white.ensures) c.in-Token.ensures in
    let ok : is_ok c.push.result ≡ true = sym c.map_err.ensures.variant ∙ ap is_ok c.in_ok-map_err-in-Token.was in
    record {
      within = omega (arith, s.within, length-drop at text);
      utf8 = c.cut.invariant.utf8;
      so_far = rw (c.push.ensures.items, ok, drop_add at c.in-Token.length text)
          (cut_token (mark_length text) (drop (mark_length text) text) c.cut.list.items _ (drop at text) c.in-Token.length c.cut.invariant.so_far refl s);
    }
