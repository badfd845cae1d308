use Rattle.std.proofs.Common.{◌≡◌, ◌+◌, ◌<◌, List, ◌∷◌, ℕ, length, true, false, arith, ap, sym, ◌∙◌}
use Rattle.st_lexer.specs.Texts.{behind, closes, is_pair, opener, closer}
use Rattle.st_lexer.proofs.Closing.{opened, shut_at, passed}
use Rattle.st_lexer.proofs.comments.comment_length.Goals as goal

pub more-preserved-then-is_pair : goal.more-preserved-then-is_pair
more-preserved-then-is_pair c =
    let whole : c.more.rest.now ≡ c.in-Some.byte.now ∷ c.in-Some-split_first.next.now ∷ c.in-Some-split_first.further.now = c.in-Some.ensures.cases.0 ∙ ap (λ (ts : List ℕ). c.in-Some.byte.now ∷ ts) c.in-Some-split_first.ensures.cases.0 in
    let is : is_pair (opener c.args.style) 42 c.in-Some.byte.now c.in-Some-split_first.next.now ≡ true = cc in
    record {
      told = c.more.invariant.told ∙ ap (λ (ts : List ℕ). behind c.more.count (closes c.args.style c.more.depth ts)) whole ∙ opened c.args.style c.more.depth _ _ _ c.more.count is;
      within = omega (arith, ap (λ (ts : List ℕ). length ts) whole);
      shallow = omega arith;
      opening = c.more.invariant.opening;
      closing = c.more.invariant.closing;
    }

pub more-preserved-then-is_pair-2 : goal.more-preserved-then-is_pair-2
more-preserved-then-is_pair-2 c =
    let whole : c.more.rest.now ≡ c.in-Some.byte.now ∷ c.in-Some-split_first.next.now ∷ c.in-Some-split_first.further.now = c.in-Some.ensures.cases.0 ∙ ap (λ (ts : List ℕ). c.in-Some.byte.now ∷ ts) c.in-Some-split_first.ensures.cases.0 in
    let no : is_pair (opener c.args.style) 42 c.in-Some.byte.now c.in-Some-split_first.next.now ≡ false = cc in
    let is : is_pair 42 (closer c.args.style) c.in-Some.byte.now c.in-Some-split_first.next.now ≡ true = cc in
    let some : 0 < c.more.depth = omega arith in
    record {
      told = c.more.invariant.told ∙ ap (λ (ts : List ℕ). behind c.more.count (closes c.args.style c.more.depth ts)) whole ∙ shut_at c.args.style c.more.depth _ _ _ c.more.count some no is;
      within = omega (arith, ap (λ (ts : List ℕ). length ts) whole);
      shallow = omega arith;
      opening = c.more.invariant.opening;
      closing = c.more.invariant.closing;
    }

pub more-preserved : goal.more-preserved
more-preserved c =
    let whole : c.more.rest.now ≡ c.in-Some.byte.now ∷ c.in-Some-split_first.next.now ∷ c.in-Some-split_first.further.now = c.in-Some.ensures.cases.0 ∙ ap (λ (ts : List ℕ). c.in-Some.byte.now ∷ ts) c.in-Some-split_first.ensures.cases.0 in
    let no : is_pair (opener c.args.style) 42 c.in-Some.byte.now c.in-Some-split_first.next.now ≡ false = cc in
    let no2 : is_pair 42 (closer c.args.style) c.in-Some.byte.now c.in-Some-split_first.next.now ≡ false = cc in
    record {
      told = c.more.invariant.told ∙ ap (λ (ts : List ℕ). behind c.more.count (closes c.args.style c.more.depth ts)) whole ∙ passed c.args.style c.more.depth _ _ _ c.more.count no no2 ∙ ap (λ (ts : List ℕ). behind (c.more.count + 1) (closes c.args.style c.more.depth ts)) (sym c.in-Some-split_first.ensures.cases.0);
      within = omega (arith, ap (λ (ts : List ℕ). length ts) c.in-Some.ensures.cases.0);
      shallow = omega arith;
      opening = c.more.invariant.opening;
      closing = c.more.invariant.closing;
    }
