-- Parts of a file sorted by their kinds.
use Rattle.std.proofs.Common.{◌≡◌, List, [], ◌∷◌, ◌++◌, reverse, ap, ◌∙◌, append_assoc}
use Rattle.std.proofs.lemmas.List.{append-nil, reverse-append}
use Rattle.st_tree.specs.declared.file.FilePart.{FilePart}
use Rattle.st_tree.specs.declared.file.SourceTree.{SourceTree}
use Rattle.st_units.specs.Parts.{with_parts}

with_none : (tree : SourceTree) → with_parts tree [] ≡ tree
with_none tree =
    rw (append-nil tree.units)
    (rw (append-nil tree.types) (rw (append-nil tree.globals) (rw (append-nil tree.config))))

with_one : (tree : SourceTree) (part : FilePart) (parts : List FilePart) →
    with_parts tree (part ∷ parts) ≡ with_parts (with_parts tree (part ∷ [])) parts
with_one tree (FilePart.Unit x) parts = simp (append_assoc, append-nil)
with_one tree (FilePart.Types x) parts = simp (append_assoc, append-nil)
with_one tree (FilePart.Globals x) parts = simp (append_assoc, append-nil)
with_one tree (FilePart.Config x) parts = simp (append_assoc, append-nil)

pub one_more : (total tree : SourceTree) (part : FilePart) (before rest : List FilePart) →
    before ≡ rest ++ part ∷ [] → total ≡ with_parts tree (reverse before) →
    total ≡ with_parts (with_parts tree (part ∷ [])) (reverse rest)
one_more total tree part before rest cut is =
    is ∙ ap (λ (xs : List FilePart). with_parts tree (reverse xs)) cut
    ∙ ap (with_parts tree) (reverse-append rest (part ∷ [])) ∙ with_one tree part (reverse rest)

pub no_more : (total tree : SourceTree) (rest : List FilePart) →
    rest ≡ [] → total ≡ with_parts tree (reverse rest) → total ≡ tree
no_more total tree rest none is =
    is ∙ ap (λ (xs : List FilePart). with_parts tree (reverse xs)) none ∙ with_none tree
