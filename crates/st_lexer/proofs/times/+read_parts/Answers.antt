use Rattle.std.proofs.Common.{◌≡◌, ◌-◌, true, false, Some, sym, ap, ◌∙◌, length, take, drop, arith}
use Rattle.std.specs.Prelude.{nat_eq}
use Rattle.st_lexer.specs.Front.{part_at, link_length}
use Rattle.st_lexer.specs.steps.Readings.{added}
use Rattle.st_lexer.proofs.TimeParts.{to_end}
use Rattle.st_lexer.proofs.PartValues.{last_part, parts_behind}
use Rattle.st_lexer.proofs.times.+read_parts.Goals as goal

pub returns-then-is_empty-clause-value : goal.returns-then-is_empty-clause-value
returns-then-is_empty-clause-value t c n lt =
    let p = c.in_ok-part.part in
    let bytes = c.args.bytes.now in
    let at : part_at bytes ≡ Some p = sym c.part_at.ensures.value ∙ c.in_ok-part.was in
    let none : nat_eq (length (drop p.length bytes)) 0 ≡ true =
    ap (λ xs. nat_eq (length xs) 0) (sym (to_end bytes p.length)) ∙ sym c.is_empty.ensures
    ∙ c.if-is_empty.true in
    last_part n c.args.above c.args.left bytes p lt at (omega arith) (omega arith) none

pub returns-in_err-more-clause-value : goal.returns-in_err-more-clause-value
returns-in_err-more-clause-value t c n lt =
    let p = c.in_ok-part.part in
    let bytes = c.args.bytes.now in
    let at : part_at bytes ≡ Some p = sym c.part_at.ensures.value ∙ c.in_ok-part.was in
    let rest : take (length bytes - p.length) (drop p.length bytes) ≡ drop p.length bytes =
    to_end bytes p.length in
    let goes : nat_eq (length (drop p.length bytes)) 0 ≡ false =
    ap (λ xs. nat_eq (length xs) 0) (sym rest) ∙ sym c.is_empty.ensures ∙ c.if-is_empty.false in
    let link : c.link_length.result ≡ link_length (drop p.length bytes) =
    c.link_length.ensures.value ∙ ap link_length rest in
    let seen = take (length bytes - p.length) (drop p.length bytes) in
    let further : take (length seen - c.link_length.result) (drop c.link_length.result seen)
    ≡ drop (link_length (drop p.length bytes)) (drop p.length bytes) =
    to_end seen c.link_length.result ∙ ap (λ xs. drop c.link_length.result xs) rest
    ∙ ap (λ k. drop k (drop p.length bytes)) link in
    let told =
    parts_behind n c.args.above c.args.left bytes p c.read_parts.result lt at (omega arith)
    (omega arith) goes c.if-part.false c.in_ok-part.ensures.some c.in_ok-part.ensures.within _
    further c.read_parts.ensures.value in
    c.from_residual-in_err-more.ensures ∙ sym (ap (added p.value) c.in_err-more.was) ∙ told

pub returns-clause-value : goal.returns-clause-value
returns-clause-value t c n lt =
    let p = c.in_ok-part.part in
    let bytes = c.args.bytes.now in
    let at : part_at bytes ≡ Some p = sym c.part_at.ensures.value ∙ c.in_ok-part.was in
    let rest : take (length bytes - p.length) (drop p.length bytes) ≡ drop p.length bytes =
    to_end bytes p.length in
    let goes : nat_eq (length (drop p.length bytes)) 0 ≡ false =
    ap (λ xs. nat_eq (length xs) 0) (sym rest) ∙ sym c.is_empty.ensures ∙ c.if-is_empty.false in
    let link : c.link_length.result ≡ link_length (drop p.length bytes) =
    c.link_length.ensures.value ∙ ap link_length rest in
    let seen = take (length bytes - p.length) (drop p.length bytes) in
    let further : take (length seen - c.link_length.result) (drop c.link_length.result seen)
    ≡ drop (link_length (drop p.length bytes)) (drop p.length bytes) =
    to_end seen c.link_length.result ∙ ap (λ xs. drop c.link_length.result xs) rest
    ∙ ap (λ k. drop k (drop p.length bytes)) link in
    let told =
    parts_behind n c.args.above c.args.left bytes p c.read_parts.result lt at (omega arith)
    (omega arith) goes c.if-part.false c.in_ok-part.ensures.some c.in_ok-part.ensures.within _
    further c.read_parts.ensures.value in
    sym (ap (added p.value) c.in_ok-more.was) ∙ told
