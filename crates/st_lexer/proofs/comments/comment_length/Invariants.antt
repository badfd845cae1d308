use Rattle.std.proofs.Common.{◌≡◌, ◌≤◌, ◌+◌, length}
use Rattle.st_lexer.specs.Texts.{closes, behind, opener, closer}
use Rattle.st_lexer.proofs.comments.comment_length.Given as goal

abbrev pub invariant-more : goal.invariant-more
invariant-more l = record {
  told : closes l.fn.style 0 l.bytes ≡ behind l.count (closes l.fn.style l.depth l.rest);
  within : l.count + length l.rest ≡ length l.bytes;
  shallow : l.depth ≤ l.count;
  opening : l.opening ≡ opener l.fn.style;
  closing : l.closing ≡ closer l.fn.style;
}

abbrev pub decreases-more : goal.decreases-more
decreases-more l = length l.rest
