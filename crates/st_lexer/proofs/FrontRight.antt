-- What stands at the front is what the functions find there.
use Rattle.std.proofs.Common.{◌≡◌, ℕ, false, List, ◌∷◌, refl}
use Rattle.st_lexer.specs.declared.bytes.Lead.{Lead}
use Rattle.st_lexer.specs.declared.bytes.Lead.TheVariants as lead
use Rattle.st_lexer.specs.Bytes.{is_white}
use Rattle.st_lexer.specs.Front.{front, by_lead, lead_of, number_at, address_at, pragma_at}
use Rattle.st_lexer.proofs.Standing.{Stands}
use Rattle.st_lexer.proofs.Right.{digit_right, percent_right, brace_right}
use Rattle.st_lexer.proofs.RightComments.{parenthesis_right, slash_right, other_right}
use Rattle.st_lexer.proofs.RightWords.{letter_right}

by : (b : ℕ) (rest : List ℕ) (l : Lead) → lead_of b ≡ l → is_white b ≡ false → Stands (b ∷ rest) (by_lead l b rest)
by b rest lead.Letter e w = letter_right b rest e
by b rest lead.Digit e w = digit_right b rest (number_at (b ∷ rest)) e refl
by b rest lead.Percent e w = percent_right b rest (address_at rest) e refl
by b rest lead.Brace e w = brace_right b rest (pragma_at rest) e refl
by b rest lead.Parenthesis e w = parenthesis_right b rest e
by b rest lead.Slash e w = slash_right b rest e
by b rest lead.Other e w = other_right b rest e w

pub front_right : (b : ℕ) (rest : List ℕ) → is_white b ≡ false → Stands (b ∷ rest) (front (b ∷ rest))
unfolding front
front_right b rest w = by b rest (lead_of b) refl w
