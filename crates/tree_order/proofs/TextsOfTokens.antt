-- Each text in a tree is that of a token of its kind, and so has a value where each of that kind
-- has one.
use Rattle.std.proofs.Common.{◌≡◌, ℕ, true, List, [], ◌∷◌, ◌++◌, map, filter, Some, rules, refl}
use Rattle.std.proofs.Common.{sym, ap, subst, ◌∙◌, inl, inr, ◌⊎◌}
use Rattle.std.specs.Prelude.{Contains, flat_map}
use denote.Enum.Bare.{same_true}
use Rattle.token_grammar.specs.contracts.token.TokenKind.{the_type}
use Rattle.token_grammar.specs.declared.token.TokenKind.{TokenKind}
use Rattle.token_grammar.specs.declared.token.Token.{Token}
use Rattle.token_grammar.specs.Texts.{Lexeme, lexeme, lexemes}
use Rattle.token_grammar.specs.Kinds.{same_kind, is_kind}
use Rattle.token_grammar.specs.Kept.{is_kept}
use Rattle.token_grammar.specs.Grammar.{Word, lexemes_of}
use Rattle.st_lexer.specs.ValueLaws.{TokensHaveValues}
use Rattle.st_tree.specs.declared.file.Comment.{Comment}
use Rattle.st_tree.specs.declared.file.FilePart.{FilePart}
use Rattle.st_tree.specs.declared.file.FilePart.TheVariants as part
use Rattle.tree_numbers.specs.Bare.{bare_file_part, bare_parts}
use Rattle.tree_numbers.specs.Numbers.{numbered_parts}
use Rattle.tree_numbers.specs.Laws.{SameParts}
use Rattle.st_units.specs.Parts.{unit_of, types_of, globals_of, config_of, file_of}
use Rattle.st_units.specs.Files.{IsFile}
use Rattle.st_units.specs.SourceTrees.{comments_among, starts_of, tree_of}
use Rattle.tree_order.specs.Subtrees.{Tree, layer_of, Encloses, directly, further, tops_of}
use Rattle.tree_order.specs.Subtrees as t
use Rattle.tree_order.specs.Literals.{IsTextOf, TextsOfTokens, TextsHaveValues}
use Rattle.tree_order.proofs.Lists.{Among, among_contained, contained_among, among_left}
use Rattle.tree_order.proofs.Lists.{among_right, among_one, among_map, map_among, among_chosen}
use Rattle.tree_order.proofs.Lists.{first_of}
use Rattle.tree_order.proofs.ExpressionLists.{list_if}
use Rattle.tree_order.proofs.UnitLists.{of_file_part}
use Rattle.tree_order.proofs.UnitLists as units
use Rattle.tree_order.proofs.LayerLists.{of_any, of_text, layer_is, enclosed_among}
use Rattle.tree_order.proofs.BareLayers.{bare_tree, bare_layer}
use Rattle.tree_order.proofs.TokenPlaces.{same_first, same_rest, among_filter}
use Rattle.tree_order.proofs.TextLists.{TokenText, HasText, HaveTexts, text_gathering}
use Rattle.tree_order.proofs.TextLists.{stmt_text_lists, decl_text_lists}
use Rattle.tree_order.proofs.PartsInOrder.{each_top}

-- the texts in a tree of any kind
abbrev texts_in : Tree → List TokenText
texts_in x = of_any stmt_text_lists decl_text_lists x

-- ---- the tokens of a word

kind_is : (a b : TokenKind) → same_kind a b ≡ true → a ≡ b
kind_is a b e = same_true the_type (search rules) a b e

text_one : (w : Word) (ms : List TokenText) (m : TokenText) → HaveTexts w ms → Among m ms →
    HasText w m
text_one w [] m h there = absurd there
text_one w (n ∷ ns) m h (inl is) = subst (HasText w) (sym is) h.0
text_one w (n ∷ ns) m h (inr there) = text_one w ns m h.1 there

text_token : (text : List ℕ) (w : Word) (ts : List Token) (m : TokenText) →
    lexemes_of w ≡ lexemes text ts → HasText w m
    → (u : Token) × Among u ts × (u.kind ≡ m.0) × ((lexeme text u).bytes ≡ m.1)
text_token text [] ts m e h = absurd h
text_token text (p ∷ w) [] m e h = absurd cc
text_token text (p ∷ w) (u ∷ us) m e (inl is) =
    let same : p.0 ≡ lexeme text u = same_first p.0 (lexeme text u) (lexemes_of w) (lexemes text us)
    e in (
      u,
      inl refl,
      kind_is u.kind m.0 (sym (ap (is_kind m.0) same) ∙ is.0),
      sym (ap (λ (l : Lexeme). l.bytes) same) ∙ is.1,
    )
text_token text (p ∷ w) (u ∷ us) m e (inr h) =
    let r = text_token text w us m (same_rest p.0 (lexeme text u) (lexemes_of w) (lexemes text us)
    e) h in
    (r.0, inr r.1, r.2, r.3)

-- ---- texts of parts of a file, before they are numbered

own_text : (x : Tree) (m : TokenText) → (layer_of x).text ≡ Some m → Among m (texts_in x)
own_text x m is =
    subst (λ ms. Among m ms) (sym (layer_is stmt_text_lists decl_text_lists x))
    (among_right m (list_if text_gathering.own (layer_of x).node)
    (of_text stmt_text_lists decl_text_lists (layer_of x).text
    ++ flat_map texts_in (layer_of x).parts)
    (among_left m (of_text stmt_text_lists decl_text_lists (layer_of x).text)
    (flat_map texts_in (layer_of x).parts)
    (subst (λ o. Among m (of_text stmt_text_lists decl_text_lists o)) (sym is) (inl refl))))

part_text : (text : List ℕ) (tokens : List Token) (parts : List FilePart) →
    IsFile text tokens parts → (p : FilePart) → Among p parts → (x : Tree) →
    Encloses (t.file_part p) x
    → (kind : TokenKind) (bytes : List ℕ) → (layer_of x).text ≡ Some (kind, bytes) →
    IsTextOf text tokens kind bytes
part_text text tokens parts spelled p there x held kind bytes is =
    let m : TokenText = (kind, bytes) in
    let all = (units.file stmt_text_lists decl_text_lists).holds 0 spelled.word parts spelled.depth
    spelled.spelled in
    let here : Among m (texts_in (t.file_part p)) = enclosed_among stmt_text_lists decl_text_lists m
    held (own_text x m is) in
    let listed : Among m (flat_map (of_file_part stmt_text_lists decl_text_lists) parts) = among_one
    (of_file_part stmt_text_lists decl_text_lists) m p parts there here in
    let found = text_token text spelled.word (filter is_kept tokens) m spelled.tokens
    (text_one spelled.word (flat_map (of_file_part stmt_text_lists decl_text_lists) parts) m
    all.texts listed) in
    record {
      token = found.0;
      there = contained_among tokens found.0
          (among_filter is_kept found.0 tokens found.1).0;
      kind_is = found.2;
      bytes_are = found.3;
    }

-- ---- trees with all numbers 0

bare_there : (x y : Tree) → Contains (layer_of x).parts y →
    Contains (layer_of (bare_tree x)).parts (bare_tree y)
bare_there x y there = contained_among (layer_of (bare_tree x)).parts (bare_tree y)
    (subst (λ ps. Among (bare_tree y) ps) (sym (bare_layer x).parts)
    (map_among bare_tree y (layer_of x).parts (among_contained (layer_of x).parts y there)))

bare_encloses : {outer inner : Tree} → Encloses outer inner →
    Encloses (bare_tree outer) (bare_tree inner)
bare_encloses {outer} {inner} (directly there) = directly (bare_there outer inner there)
bare_encloses {outer} {inner} (further {middle} there more) =
    further (bare_there outer middle there) (bare_encloses more)

-- a tree within one with all numbers 0 is one within it, with all numbers 0
unbare_part : (x outer y : Tree) → outer ≡ bare_tree x → Contains (layer_of outer).parts y →
    (v : Tree) × Contains (layer_of x).parts v × (y ≡ bare_tree v)
unbare_part x outer y is there =
    let among : Among y (map bare_tree (layer_of x).parts) = subst (λ ps. Among y ps)
    (ap (λ z. (layer_of z).parts) is ∙ (bare_layer x).parts)
    (among_contained (layer_of outer).parts y there) in
    let r = among_map bare_tree y (layer_of x).parts among in
    (r.0, contained_among (layer_of x).parts r.0 r.1, r.2)

unbare : {outer inner : Tree} → Encloses outer inner → (x : Tree) → outer ≡ bare_tree x →
    (v : Tree) × Encloses x v × (inner ≡ bare_tree v)
unbare {outer} {inner} (directly there) x is =
    let r = unbare_part x outer inner is there in (r.0, directly r.1, r.2)
unbare {outer} {inner} (further {middle} there more) x is =
    let r = unbare_part x outer middle is there in
    let s = unbare more r.0 r.2 in
    (s.0, further r.1 s.1, s.2)

-- ---- the parts that stand in a file

-- a tree stands within one of the parts
abbrev StandsIn : List FilePart → Tree → Type 0
StandsIn ps x = (p : FilePart) × Among p ps × Encloses (t.file_part p) x

behind : {outer inner : Tree} (x : Tree) → Encloses outer inner → (x ≡ inner) ⊎ Encloses inner x →
    Encloses outer x
behind {outer} {inner} x held (inl same) = subst (λ y. Encloses outer y) (sym same) held
behind {outer} x (directly there) (inr more) = further there more
behind {outer} {inner} x (further {middle} there held) (inr more) =
    further there (behind x held (inr more))

head_of : (ps : List FilePart) (p : FilePart) (top : Tree) → Among p ps →
    Contains (t.file_part_layer p).parts top → (x : Tree) → (x ≡ top) ⊎ Encloses top x →
    StandsIn ps x
head_of ps p top there first x within = (p, there, behind x (directly first) within)

unit_first : (p : FilePart) (u : _) → unit_of p ≡ Some u →
    Contains (t.file_part_layer p).parts (t.unit u)
unit_first (part.Unit v) u e =
    contained_among (t.unit v ∷ []) (t.unit u) (inl (ap t.unit (sym (first_of v u e))))
unit_first (part.Types v) u e = absurd cc
unit_first (part.Globals v) u e = absurd cc
unit_first (part.Config v) u e = absurd cc

types_first : (p : FilePart) (u : _) → types_of p ≡ Some u →
    Contains (t.file_part_layer p).parts (t.types u)
types_first (part.Unit v) u e = absurd cc
types_first (part.Types v) u e =
    contained_among (t.types v ∷ []) (t.types u) (inl (ap t.types (sym (first_of v u e))))
types_first (part.Globals v) u e = absurd cc
types_first (part.Config v) u e = absurd cc

globals_first : (p : FilePart) (u : _) → globals_of p ≡ Some u →
    Contains (t.file_part_layer p).parts (t.globals u)
globals_first (part.Unit v) u e = absurd cc
globals_first (part.Types v) u e = absurd cc
globals_first (part.Globals v) u e =
    contained_among (t.globals v ∷ []) (t.globals u) (inl (ap t.globals (sym (first_of v u e))))
globals_first (part.Config v) u e = absurd cc

config_first : (p : FilePart) (u : _) → config_of p ≡ Some u →
    Contains (t.file_part_layer p).parts (t.config u)
config_first (part.Unit v) u e = absurd cc
config_first (part.Types v) u e = absurd cc
config_first (part.Globals v) u e = absurd cc
config_first (part.Config v) u e =
    contained_among (t.config v ∷ []) (t.config u) (inl (ap t.config (sym (first_of v u e))))

tops_stand : (ps : List FilePart) (found : List Comment) (feeds : List ℕ) (x : Tree) (top : Tree) →
    Contains (tops_of (file_of ps found feeds)) top → (x ≡ top) ⊎ Encloses top x → StandsIn ps x
tops_stand ps found feeds x =
    each_top (λ top. (x ≡ top) ⊎ Encloses top x → StandsIn ps x) (file_of ps found feeds)
    (λ u there within. let r = among_chosen unit_of u ps there in head_of ps r.0 (t.unit u) r.1
    (unit_first r.0 u r.2) x within)
    (λ u there within. let r = among_chosen types_of u ps there in head_of ps r.0 (t.types u) r.1
    (types_first r.0 u r.2) x within)
    (λ u there within. let r = among_chosen globals_of u ps there in head_of ps r.0 (t.globals u)
    r.1 (globals_first r.0 u r.2) x within)
    (λ u there within. let r = among_chosen config_of u ps there in head_of ps r.0 (t.config u) r.1
    (config_first r.0 u r.2) x within)

-- ---- trees

-- what stands in parts stands, but for the numbers, in parts that are the same but for theirs
same_part : (ps qs : List FilePart) → bare_parts ps ≡ bare_parts qs → (x : Tree) → StandsIn ps x →
    (v : Tree) × StandsIn qs v × ((layer_of v).text ≡ (layer_of x).text)
same_part ps qs same x (p, there, held) =
    let among : Among (bare_file_part p) (bare_parts qs) = subst (λ xs. Among (bare_file_part p) xs)
    same (map_among bare_file_part p ps there) in
    let q = among_map bare_file_part (bare_file_part p) qs among in
    let r = unbare (bare_encloses held) (t.file_part q.0) (ap t.file_part q.2) in (
      r.0,
      (q.0, q.1, r.1),
      sym (bare_layer r.0).text ∙ sym (ap (λ z. (layer_of z).text) r.2)
          ∙ (bare_layer x).text,
    )

pub texts_of_tokens : SameParts → TextsOfTokens
texts_of_tokens same text tree tokens cut is x (top, there, within) kind bytes text_is =
    let places = starts_of (comments_among tokens) in
    let made = tree_of text (comments_among tokens) is.parts in
    let stands : StandsIn (numbered_parts places is.parts) x = tops_stand
    (numbered_parts places is.parts) made.comments made.feeds x top
    (subst (λ z. Contains (tops_of z) top) is.tree_is there) within in
    let r = same_part (numbered_parts places is.parts) is.parts (same places is.parts) x stands in
    part_text text tokens is.parts is.spelled r.1.0 r.1.1 r.0 r.1.2 kind bytes (r.2 ∙ text_is)

pub texts_have_values : {A : Type 0} (kind : TokenKind) {IsOne : List ℕ →
    Type 0} (HasValue : List ℕ → A → Type 0) → SameParts → TokensHaveValues kind IsOne HasValue →
    TextsHaveValues kind HasValue
texts_have_values kind HasValue same values text tree (tokens, cut, is) x there bytes text_is =
    let found = texts_of_tokens same text tree tokens cut is x there kind bytes text_is in
    let r = values.value text tokens cut found.token found.there found.kind_is in
    (r.0, subst (λ z. HasValue z r.0) found.bytes_are r.1)
