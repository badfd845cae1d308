-- The settings of a text that has a document.
use Rattle.std.proofs.Common.{◌≡◌, ℕ, List, length, true, Some, nat_eq, arith, refl}
use Rattle.std.specs.Prelude.{IsUtf8}
use Rattle.std.specs.Str.Lossy.{utf8_valid_len}
use Rattle.std.proofs.lemmas.Str.{utf8_valid_len-IsUtf8}
use Rattle.toml.specs.Data.{Members}
use Rattle.toml.specs.Parse.{parse_document}
use Rattle.project_keeper.specs.Names.{is_utf8}
use Rattle.station_settings.specs.Schema.{settings, settings_of}

same : (m n : ℕ) → m ≡ n → nat_eq m n ≡ true
same m n e = grind (arith, e)

utf8 : (text : List ℕ) → IsUtf8 text → is_utf8 text ≡ true
utf8 text valid = same (utf8_valid_len text) (length text) (utf8_valid_len-IsUtf8 text valid)

pub settings_there : (text : List ℕ) (document : Members) → IsUtf8 text → parse_document text ≡ Some document → settings text ≡ settings_of document
settings_there text document valid parsed = rw (utf8 text valid, parsed) refl
