-- Enumerations and names that are added one after the other.
use Rattle.std.proofs.Common.{◌≡◌, ◌∙◌, ℕ, suc, ◌+◌, ◌<◌, List, [], ◌∷◌, ◌++◌, length, get_or, drop}
use Rattle.std.proofs.Common.{flat_map, sym, ap, arith, add-one, drop-cons}
use Rattle.std.proofs.lemmas.List.{append-nil, append_assoc}
use Rattle.scope_names.specs.declared.names.NameRow.{NameRow}
use Rattle.st_tree.specs.declared.file.Fields.{Fields}
use Rattle.type_parts.specs.Parts.{fields_names}
use Rattle.type_parts.specs.Tables.{AddsListed, AddsNames, enumerations_in, entries_in, Entry}
use Rattle.type_parts.specs.Tables.{entry, list_entries}
use Rattle.type_parts.specs.declared.listed.Listed.{Listed}

pub nothing_listed : (rows : List Listed) → AddsListed rows rows []
nothing_listed rows = sym (append-nil (enumerations_in rows))

pub nothing_named : (rows : List (NameRow ℕ)) → AddsNames rows rows []
nothing_named rows = sym (append-nil (entries_in rows))

entries_behind : (n k : ℕ) (xs ys : List (List ℕ))
    → list_entries n k (xs ++ ys) ≡ list_entries n k xs ++ list_entries n (k + length xs) ys
entries_behind n k [] ys = ap (λ m. list_entries n m ys) (omega arith)
entries_behind n k (x ∷ xs) ys =
    ap (λ es. entry n k x ∷ es) (entries_behind n (suc k) xs ys
    ∙ ap (λ m. list_entries n (suc k) xs ++ list_entries n m ys) (omega arith))

-- the next turn of a loop that adds the fields of a structure
pub next_fields : (n place next : ℕ) (groups : List Fields) (i : ℕ) (g : Fields)
    (before after whole : List Entry) → i < length groups → g ≡ get_or groups i g
    → after ≡ before ++ list_entries n place (fields_names g) → next ≡ place + length (fields_names g)
    → before ++ list_entries n place (flat_map fields_names (drop i groups)) ≡ whole
    → after ++ list_entries n next (flat_map fields_names (drop (i + 1) groups)) ≡ whole
next_fields n place next groups i g before after whole l is added counted h =
    let e : drop i groups ≡ g ∷ drop (i + 1) groups =
    rw add-one (drop-cons groups i g l ∙ ap (λ y. y ∷ drop (suc i) groups) (sym is)) in
    let names = fields_names g in
    let rest = flat_map fields_names (drop (i + 1) groups) in
    ap (λ m. after ++ list_entries n m rest) counted
    ∙ ap (λ es. es ++ list_entries n (place + length names) rest) added
    ∙ append_assoc before (list_entries n place names) (list_entries n (place + length names) rest)
    ∙ ap (λ es. before ++ es) (sym (entries_behind n place names rest))
    ∙ ap (λ gs. before ++ list_entries n place (flat_map fields_names gs)) (sym e)
    ∙ h
