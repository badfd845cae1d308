-- A unit, of its sections and its body.
use Rattle.std.proofs.Common.{◌≡◌, Bool, true, false, ◌&&◌, List, [], ◌∷◌, ◌++◌, Option, Some, None, Err, refl, sym, ap, ◌∙◌, cond}
use Rattle.std.specs.Prelude.{map, if◌then◌else◌}
use Rattle.std.proofs.lemmas.Option.{same_Some}
use Rattle.st_tree.specs.declared.file.Unit as written_unit
use Rattle.st_tree.specs.declared.node.Node.{Node}
use Rattle.first_form.specs.declared.tree.Identifier.{Identifier}
use Rattle.first_form.specs.declared.tree.Decl.{Decl}
use Rattle.first_form.specs.declared.tree.Section.{Section}
use Rattle.first_form.specs.declared.tree.Stmt.{Stmt}
use Rattle.first_form.specs.declared.tree.Unit.{Unit as SourceUnit}
use Rattle.first_form.specs.declared.refusal.Refusal.{Refusal}
use Rattle.first_form.specs.declared.refusal.Refusal.TheVariants.{OtherForm, NoMemory}
use Rattle.first_form.specs.Bare.{bare_node, bare_identifier, bare_decl, bare_section, bare_stmt, bare_unit}
use Rattle.first_form.specs.Names.{Names, has, names_of, declared, declared_in}
use Rattle.first_form.specs.FirstForm.{Known, ◌>>=◌, identifier, sections, body, are_apart, is_program, unit_of}
use Rattle.first_form.specs.steps.Answers.{Gives}
use Rattle.first_form.specs.steps.Known.{Declares}

-- ---- names are no numbers

names_bare : (is : List Identifier) → names_of (map bare_identifier is) ≡ names_of is
names_bare [] = refl
names_bare (i ∷ is) = ap (λ (names : Names). i.name ∷ names) (names_bare is)

declared_bare : (ds : List Decl) → declared (map bare_decl ds) ≡ declared ds
declared_bare [] = refl
declared_bare (d ∷ ds) =
    ap (λ (names : Names). names ++ declared (map bare_decl ds)) (names_bare d.names)
    ∙ ap (λ (names : Names). names_of d.names ++ names) (declared_bare ds)

pub declared_in_bare : (ss : List Section) → declared_in (map bare_section ss) ≡ declared_in ss
declared_in_bare [] = refl
declared_in_bare (s ∷ ss) = ap (λ (names : Names). names ++ declared_in (map bare_section ss))
    (declared_bare s.decls) ∙ ap (λ (names : Names). declared s.decls ++ names)
    (declared_in_bare ss)

-- ---- the unit

-- of such sections, whose names are these
abbrev behind : written_unit.Unit → List Section → Names → Option SourceUnit
behind u ss names = if is_program u.kind && are_apart names
    then (body (has names) u.body >>= λ stmts. Some (record {
      node = bare_node u.node;
      name =
          identifier u.name;
      sections = ss;
      body = stmts;
    }))
    else None

and_none : {X : Type 0} (a : Bool) (x : Option X) → cond (a && false) x None ≡ None
and_none true x = refl
and_none false x = refl

or_none : {X : Type 0} (a : Bool) (x : Option X) → x ≡ None → cond a x None ≡ None
or_none true x e = e
or_none false x e = refl

module _ (u : written_unit.Unit) (ss : List Section)
    (e : sections u.sections ≡ Some (map bare_section ss)) where
  opened : unit_of u ≡ behind u (map bare_section ss) (declared_in ss)
  unfolding unit_of
  opened = ap (λ (o : Option (List Section)). o >>= λ ss. behind u ss (declared_in ss)) e
      ∙ ap (behind u (map bare_section ss)) (declared_in_bare ss)

  pub twice_refused : (r : Refusal) → Declares (declared_in ss) (Err r)
      → Gives bare_unit (unit_of u) (Err r)
  twice_refused OtherForm twice = opened ∙ ap (λ (b : Bool). if is_program u.kind && b
      then (body (has (declared_in ss)) u.body >>= λ stmts. Some
      (record {
        node = bare_node u.node;
        name = identifier u.name;
        sections =
            map bare_section ss;
        body = stmts;
      }))
      else None) twice ∙ and_none (is_program u.kind) _
  twice_refused NoMemory twice = tt

  module _ (known : Known) (is : known ≡ has (declared_in ss)) where
    pub body_refused : (r : Refusal) → Gives (map bare_stmt) (body known u.body) (Err r)
        → Gives bare_unit (unit_of u) (Err r)
    body_refused OtherForm none =
        opened ∙ ap (λ (o : Option (List Stmt)). if is_program u.kind && are_apart (declared_in ss)
        then (o >>= λ stmts. Some (record {
          node = bare_node u.node;
          name =
              identifier u.name;
          sections = map bare_section ss;
          body = stmts;
        }))
        else None) (ap (λ (k : Known). body k u.body) (sym is) ∙ none)
        ∙ or_none (is_program u.kind && are_apart (declared_in ss)) None refl
    body_refused NoMemory none = tt

    pub unit_made : (node : Node) (name : Identifier) (stmts : List Stmt) → is_program u.kind ≡ true
        → are_apart (declared_in ss) ≡ true → body known u.body ≡ Some (map bare_stmt stmts)
        → Some (identifier u.name) ≡ Some (bare_identifier name) → bare_node node ≡ bare_node u.node
        → unit_of u ≡ Some
        (bare_unit (record { node = node; name = name; sections = ss; body = stmts }))
    unit_made node name stmts program apart made named place =
        opened
        ∙ ap (λ (o : Option (List Stmt)). if is_program u.kind && are_apart (declared_in ss)
        then (o >>= λ stmts. Some (record {
          node = bare_node u.node;
          name =
              identifier u.name;
          sections = map bare_section ss;
          body = stmts;
        }))
        else None) (ap (λ (k : Known). body k u.body) (sym is) ∙ made)
        ∙ ap (λ (b : Bool). cond b
        (Some (record {
          node = bare_node u.node;
          name = identifier u.name;
          sections =
              map bare_section ss;
          body = map bare_stmt stmts;
        })) None)
        (ap (λ (b : Bool). b && are_apart (declared_in ss)) program ∙ apart)
        ∙ ap (λ (i : Identifier). Some (record {
          node = bare_node u.node;
          name = i;
          sections =
              map bare_section ss;
          body = map bare_stmt stmts;
        }))
        (same_Some (identifier u.name) (bare_identifier name) named)
        ∙ ap (λ (m : Node). Some (record {
          node = m;
          name = bare_identifier name;
          sections =
              map bare_section ss;
          body = map bare_stmt stmts;
        })) (sym place)
