use Rattle.std.proofs.Common.{◌≡◌, ℕ, List, Result, Ok, Err, IfOk, sym, ap, subst, ◌∙◌}
use Rattle.std.specs.List.Sorted.{IsPermutation}
use Rattle.st_tree.specs.Feeds.{feeds_from}
use Rattle.st_tree.specs.declared.file.Comment.{Comment}
use Rattle.st_tree.specs.declared.file.FilePart.{FilePart}
use Rattle.st_tree.specs.declared.file.SourceTree.{SourceTree}
use Rattle.station_ports.specs.declared.outside.NoMemory.{NoMemory}
use Rattle.tree_numbers.specs.Numbers.{numbered_parts}
use Rattle.st_units.specs.Parts.{file_of}
use Rattle.st_units.specs.SourceTrees as spec
use Rattle.st_units.proofs.CommentTrees.{comments_same}
use Rattle.st_units.proofs.source_file.tree_of.Goals as goal

same_tree : (r : Result SourceTree NoMemory) (a b : SourceTree) → a ≡ b → IfOk r (λ t. t ≡ a)
    → IfOk r (λ t. t ≡ b)
same_tree (Ok t) a b e h = h ∙ e
same_tree (Err x) a b e h = tt

pub returns : goal.returns
returns c =
    let text = c.args.text.now in
    let parts = c.args.parts in
    let comments = c.args.comments.now in
    let starts = spec.starts_of comments in
    let places : c.of.result ≡ starts = c.of.ensures ∙ c.deref.ensures.value ∙ c.in_ok-places.ensures in
    let numbered : c.number_all.new.parts ≡ numbered_parts starts parts =
    c.in_ok-nodes.ensures.tree ∙ ap (λ (l : List ℕ). numbered_parts l parts) places in
    let moved : IsPermutation (spec.places_of parts) c.of-2.result =
    subst (IsPermutation (spec.places_of parts)) (sym (c.of-2.ensures ∙ c.as_slice.ensures))
    c.in_ok-nodes.ensures.same in
    let noted : c.in_ok-comments.comments ≡ spec.comments_from (spec.places_of parts) 0 text comments =
    c.in_ok-comments.ensures ∙ comments_same (spec.places_of parts) c.of-2.result moved 0 text comments in
    let feeds : c.in_ok-feeds_of.field-0 ≡ feeds_from 0 text = c.in_ok-feeds_of.ensures in
    let held : c.parts-2.inside.items.items ≡ c.number_all.new.parts = c.parts-2.view_is in
    same_tree c.source_tree.result
    (file_of c.parts-2.inside.items.items c.in_ok-comments.comments c.in_ok-feeds_of.field-0)
    (spec.tree_of text comments parts)
    (ap (λ (ps : List FilePart). file_of ps c.in_ok-comments.comments c.in_ok-feeds_of.field-0)
    (held ∙ numbered)
    ∙ ap (λ (cs : List Comment). file_of (numbered_parts starts parts) cs c.in_ok-feeds_of.field-0) noted
    ∙ ap (file_of (numbered_parts starts parts) (spec.comments_from (spec.places_of parts) 0 text comments))
    feeds)
    c.source_tree.ensures
