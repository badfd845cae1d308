-- What holds of each of the types, by a test that goes through all of them.
use Rattle.std.proofs.Common.{◌≡◌, Bool, true, arith}
use Rattle.std.specs.List.{list_all}
use Rattle.std.proofs.lemmas.List.Sums.{AllPass-from_list_all}
use Rattle.iec_tables.specs.declared.elem.Elem.{Elem}
use Rattle.iec_tables.specs.declared.elem.Elem.TheVariants.{Sint, Int, Dint, Lint, Usint, Uint, Udint, Ulint, Bool as Truth, Byte, Word, Dword, Lword, Time}
use Rattle.interval_domain.specs.Grid.{all_types}

pub for-each-type : (p : Elem → Bool) → list_all p all_types ≡ true → (t : Elem) → p t ≡ true
for-each-type p h Sint = AllPass-from_list_all p all_types h 0 Sint (omega arith)
for-each-type p h Int = AllPass-from_list_all p all_types h 1 Int (omega arith)
for-each-type p h Dint = AllPass-from_list_all p all_types h 2 Dint (omega arith)
for-each-type p h Lint = AllPass-from_list_all p all_types h 3 Lint (omega arith)
for-each-type p h Usint = AllPass-from_list_all p all_types h 4 Usint (omega arith)
for-each-type p h Uint = AllPass-from_list_all p all_types h 5 Uint (omega arith)
for-each-type p h Udint = AllPass-from_list_all p all_types h 6 Udint (omega arith)
for-each-type p h Ulint = AllPass-from_list_all p all_types h 7 Ulint (omega arith)
for-each-type p h Truth = AllPass-from_list_all p all_types h 8 Truth (omega arith)
for-each-type p h Byte = AllPass-from_list_all p all_types h 9 Byte (omega arith)
for-each-type p h Word = AllPass-from_list_all p all_types h 10 Word (omega arith)
for-each-type p h Dword = AllPass-from_list_all p all_types h 11 Dword (omega arith)
for-each-type p h Lword = AllPass-from_list_all p all_types h 12 Lword (omega arith)
for-each-type p h Time = AllPass-from_list_all p all_types h 13 Time (omega arith)
