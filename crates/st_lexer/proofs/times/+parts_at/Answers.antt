use Rattle.std.proofs.Common.{◌≡◌, ◌+◌, ◌-◌, ℕ, true, false, Some, sym, ap, ◌∙◌, length, take, drop, arith}
use Rattle.st_lexer.specs.Bytes.{begins, in_word}
use Rattle.st_lexer.specs.Front.{part_at, longer, link_length}
use Rattle.st_lexer.proofs.TimeParts.{more_parts, to_end}
use Rattle.st_lexer.proofs.times.+parts_at.Goals as goal

pub returns-in_err-more-clause-value : goal.returns-in_err-more-clause-value
returns-in_err-more-clause-value t c n lt =
    let p = c.in_ok-part.part in
    let bytes = c.args.bytes.now in
    let at : part_at bytes ≡ Some p = sym c.part_at.ensures.value ∙ c.in_ok-part.was in
    let rest : take (length bytes - p.length) (drop p.length bytes) ≡ drop p.length bytes = to_end bytes p.length in
    let goes : begins in_word (drop p.length bytes) ≡ true = ap (begins in_word) (sym rest) ∙ sym c.begins_word_byte.ensures ∙ cc in
    let last : p.last ≡ false = cc in
    let link : c.link_length.result ≡ link_length (drop p.length bytes) = c.link_length.ensures.value ∙ ap link_length rest in
    let next = p.length + c.link_length.result in
    let further : take (length bytes - next) (drop next bytes) ≡ drop (p.length + link_length (drop p.length bytes)) bytes = to_end bytes next ∙ ap (λ (k : ℕ). drop (p.length + k) bytes) link in
    let told = more_parts n c.args.above c.args.left bytes p c.parts_at.result lt at (omega arith) (omega arith) goes last c.in_ok-part.ensures.some c.in_ok-part.ensures.within _ further c.parts_at.ensures.value in
    c.from_residual-in_err-more.ensures ∙ sym (ap (longer (p.length + link_length (drop p.length bytes))) c.in_err-more.was) ∙ told

pub returns-clause-value : goal.returns-clause-value
returns-clause-value t c n lt =
    let p = c.in_ok-part.part in
    let bytes = c.args.bytes.now in
    let at : part_at bytes ≡ Some p = sym c.part_at.ensures.value ∙ c.in_ok-part.was in
    let rest : take (length bytes - p.length) (drop p.length bytes) ≡ drop p.length bytes = to_end bytes p.length in
    let goes : begins in_word (drop p.length bytes) ≡ true = ap (begins in_word) (sym rest) ∙ sym c.begins_word_byte.ensures ∙ cc in
    let last : p.last ≡ false = cc in
    let link : c.link_length.result ≡ link_length (drop p.length bytes) = c.link_length.ensures.value ∙ ap link_length rest in
    let next = p.length + c.link_length.result in
    let further : take (length bytes - next) (drop next bytes) ≡ drop (p.length + link_length (drop p.length bytes)) bytes = to_end bytes next ∙ ap (λ (k : ℕ). drop (p.length + k) bytes) link in
    let told = more_parts n c.args.above c.args.left bytes p c.parts_at.result lt at (omega arith) (omega arith) goes last c.in_ok-part.ensures.some c.in_ok-part.ensures.within _ further c.parts_at.ensures.value in
    ap (λ (k : ℕ). Some (p.length + k + c.in_ok-more.more)) link ∙ sym (ap (longer (p.length + link_length (drop p.length bytes))) c.in_ok-more.was) ∙ told
