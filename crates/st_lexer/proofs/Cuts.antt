-- Cuts: how they grow, that there is one or a fault, and no two.
use Rattle.std.proofs.Common.{◌≡◌, ℕ, zero, suc, ◌+◌, ◌-◌, ◌<◌, ◌≤◌, true, false, List, [], ◌∷◌, ◌++◌, length, get_or, take, drop, refl, sym, ap, subst, ◌∙◌, arith}
use Rattle.std.specs.List.{list_all, prefix_len}
use Rattle.std.proofs.lemmas.List.{length-append, length-drop, drop_more}
use Rattle.iec_tables.specs.declared.fault.FaultCode.{FaultCode}
use Rattle.iec_tables.specs.declared.fault.FaultCode.TheVariants.{NotUtf8, BadByte, OpenComment, BadNumber, BadName, Grammar, TooDeep}
use Rattle.token_grammar.specs.declared.token.TokenKind.{TokenKind}
use Rattle.token_grammar.specs.declared.token.Token.{Token}
use Rattle.st_lexer.specs.declared.front.Found.{Found}
use Rattle.st_lexer.specs.declared.front.Found.TheVariants as found
use Rattle.st_lexer.specs.Bytes.{is_white, begins}
use Rattle.st_lexer.specs.Texts.{IsText}
use Rattle.st_lexer.specs.Faulty.{IsFaulty}
use Rattle.st_lexer.specs.Cut.{IsToken, IsBlank, IsNext, CutTo, IsCutTo, mark_length}
use Rattle.st_lexer.specs.Front.{front}
use Rattle.st_lexer.proofs.Runs.{run_passes, run_stops, front_is, split_at, same_front, append_assoc_, all_append, drop_front}
use Rattle.st_lexer.proofs.LeadTexts.{text_some}
use Rattle.st_lexer.proofs.TimeParts.{to_end}
use Rattle.st_lexer.proofs.Standing.{StandsToken, Stands, length_take}
use Rattle.st_lexer.proofs.FrontRight.{front_right}
use Rattle.st_lexer.proofs.OneKind.{one_kind, text_dark, fault_dark}

-- ---- how a cut grows

blank_white : (at : ℕ) (bytes : List ℕ) (p b : ℕ) (rest : List ℕ) → IsBlank at bytes p (b ∷ rest) → is_white b ≡ true → IsBlank at bytes (p + 1) rest
blank_white at bytes p b rest h w = record {
  white = h.white ++ b ∷ [];
  bytes_are = h.bytes_are ∙ sym (append_assoc_ h.white (b ∷ []) rest);
  blank = all_append is_white h.white (b ∷ []) h.blank (rw w refl);
  place_is = omega (arith, h.place_is, length-append h.white (b ∷ []));
}

pub cut_white : (at : ℕ) (bytes : List ℕ) (ts : List Token) (p b : ℕ) (rest : List ℕ) → CutTo at bytes ts p (b ∷ rest) → is_white b ≡ true → CutTo at bytes ts (p + 1) rest
cut_white at bytes [] p b rest h w = blank_white at bytes p b rest h w
cut_white at bytes (t ∷ ts) p b rest (more, next, h) w = (more, next, cut_white t.end more ts p b rest h w)

none_blank : (at : ℕ) (rest : List ℕ) → IsBlank at rest at rest
none_blank at rest = record { white = []; bytes_are = refl; blank = refl; place_is = omega arith }

next_token : (at : ℕ) (bytes : List ℕ) (t : Token) (rest : List ℕ) (n : ℕ) → IsBlank at bytes t.start rest → t.end ≡ t.start + n → StandsToken t.kind n rest → IsNext at bytes t (drop n rest)
next_token at bytes t rest n b e s = record {
  text = take n rest;
  blank = subst (λ (x : List ℕ). IsBlank at bytes t.start x) (split_at n rest) b;
  end = omega (arith, e, length_take n rest s.within);
  token = s.token;
}

pub cut_token : (at : ℕ) (bytes : List ℕ) (ts : List Token) (t : Token) (rest : List ℕ) (n : ℕ) → CutTo at bytes ts t.start rest → t.end ≡ t.start + n → StandsToken t.kind n rest
    → CutTo at bytes (ts ++ t ∷ []) t.end (drop n rest)
cut_token at bytes [] t rest n h e s = (drop n rest, next_token at bytes t rest n h e s, none_blank t.end (drop n rest))
cut_token at bytes (u ∷ us) t rest n (more, next, h) e s = (more, next, cut_token u.end more us t rest n h e s)

pub cut_start : (text : List ℕ) → IsCutTo text [] (mark_length text) (drop (mark_length text) text)
cut_start text = none_blank (mark_length text) (drop (mark_length text) text)

-- ---- where a cut ends

-- nothing is left, or a fault stands there
pub data Ends (rest : List ℕ) : Type 0 where
  done : rest ≡ [] → Ends rest
  stopped : (code : FaultCode) → IsFaulty code rest → Ends rest

dark_end : (rest : List ℕ) → Ends rest → begins is_white rest ≡ false
dark_end rest (done e) = ap (begins is_white) e
dark_end rest (stopped code f) = fault_dark code rest f

dark_token : (k : TokenKind) (text rest : List ℕ) → IsText k text → begins is_white (text ++ rest) ≡ false
dark_token k [] rest is = absurd (text_some k is)
dark_token k (b ∷ bs) rest is = text_dark k b bs is

pub record SameBlank (p q : ℕ) (rest more : List ℕ) : Type 0 where
  pub place : p ≡ q
  pub rest_is : rest ≡ more

one_blank : (at : ℕ) (bytes : List ℕ) (p q : ℕ) (rest more : List ℕ) → IsBlank at bytes p rest → IsBlank at bytes q more → begins is_white rest ≡ false → begins is_white more ≡ false → SameBlank p q rest more
one_blank at bytes p q rest more x y dx dy =
    let f = front_is is_white bytes x.white rest x.bytes_are x.blank dx in
    let g = front_is is_white bytes y.white more y.bytes_are y.blank dy in
    record { place = omega (arith, x.place_is, y.place_is, f.count, g.count); rest_is = sym f.behind ∙ g.behind }

-- a token stands where nothing ends
no_end : (k : TokenKind) (text more rest : List ℕ) → IsToken k text more → rest ≡ text ++ more → Ends rest → ⊥
no_end k text more rest t e (done d) = by text t.text_is (sym e ∙ d)
  where
    by : (text : List ℕ) → IsText k text → text ++ more ≡ [] → ⊥
    by [] is x = text_some k is
    by (b ∷ bs) is x = cc
no_end k text more rest t e (stopped code f) = by code (subst (λ (x : List ℕ). IsFaulty code x) e f)
  where
    by : (c : FaultCode) → IsFaulty c (text ++ more) → ⊥
    by NotUtf8 x = x
    by BadByte x = x.none k text more refl t.text_is
    by OpenComment x = t.no_fault.no_open_comment x
    by BadNumber x = t.no_fault.no_bad_number x
    by BadName x = t.no_fault.no_bad_name x
    by Grammar x = x
    by TooDeep x = x

-- ---- one cut

pub record SameCut (ts us : List Token) (p q : ℕ) (rest more : List ℕ) : Type 0 where
  pub tokens : ts ≡ us
  pub place : p ≡ q
  pub rest_is : rest ≡ more

same_token : (k j : TokenKind) (x y r s : List ℕ) → IsToken k x r → IsToken j y s → x ++ r ≡ y ++ s → (k ≡ j) × (x ≡ y) × (r ≡ s)
same_token k j x y r s a b e =
    let le = a.longest j y s e b.text_is in
    let ge = b.longest k x r (sym e) a.text_is in
    let same = same_front x y r s e (omega (arith, le, ge)) in
    let rest : r ≡ s = sym (drop_front x r) ∙ ap (drop (length x)) (e ∙ ap (λ (z : List ℕ). z ++ s) (sym same)) ∙ drop_front x s in
    (one_kind k j y (subst (λ (z : List ℕ). IsText k z) same a.text_is) b.text_is, same, rest)

token_is : (t u : Token) → t.kind ≡ u.kind → t.start ≡ u.start → t.end ≡ u.end → t ≡ u
token_is t u e1 e2 e3 = ap (λ (x : TokenKind). record { kind = x; start = t.start; end = t.end }) e1 ∙ ap (λ (x : ℕ). record { kind = u.kind; start = x; end = t.end }) e2 ∙ ap (λ (x : ℕ). record { kind = u.kind; start = u.start; end = x }) e3

pub one_cut : (ts us : List Token) (at : ℕ) (bytes : List ℕ) (p q : ℕ) (rest more : List ℕ) → CutTo at bytes ts p rest → CutTo at bytes us q more → Ends rest → Ends more → SameCut ts us p q rest more
one_cut [] [] at bytes p q rest more x y dx dy =
    let b = one_blank at bytes p q rest more x y (dark_end rest dx) (dark_end more dy) in
    record { tokens = refl; place = b.place; rest_is = b.rest_is }
one_cut [] (u ∷ us) at bytes p q rest more x (r, n, y) dx dy =
    let b = one_blank at bytes p u.start rest (n.text ++ r) x n.blank (dark_end rest dx) (dark_token u.kind n.text r n.token.text_is) in
    absurd (no_end u.kind n.text r rest n.token b.rest_is dx)
one_cut (t ∷ ts) [] at bytes p q rest more (r, n, x) y dx dy =
    let b = one_blank at bytes q t.start more (n.text ++ r) y n.blank (dark_end more dy) (dark_token t.kind n.text r n.token.text_is) in
    absurd (no_end t.kind n.text r more n.token b.rest_is dy)
one_cut (t ∷ ts) (u ∷ us) at bytes p q rest more (r, n, x) (s, m, y) dx dy =
    let b = one_blank at bytes t.start u.start (n.text ++ r) (m.text ++ s) n.blank m.blank (dark_token t.kind n.text r n.token.text_is) (dark_token u.kind m.text s m.token.text_is) in
    let k = same_token t.kind u.kind n.text m.text r s n.token m.token b.rest_is in
    let end : t.end ≡ u.end = omega (arith, n.end, m.end, b.place, ap length k.1) in
    let others = one_cut ts us u.end s p q rest more (subst (λ (z : List ℕ). CutTo u.end z ts p rest) k.2 (subst (λ (z : ℕ). CutTo z r ts p rest) end x)) y dx dy in
    record {
      tokens = ap (λ (z : Token). z ∷ ts) (token_is t u k.0 b.place end) ∙ ap (λ (zs : List Token). u ∷ zs) others.tokens;
      place = others.place;
      rest_is = others.rest_is;
    }

-- ---- some cut

pub record SomeEnd (at : ℕ) (bytes : List ℕ) : Type 0 where
  pub tokens : List Token
  pub place : ℕ
  pub rest : List ℕ
  pub cut : CutTo at bytes tokens place rest
  pub ends : Ends rest
  pub counted : place + length rest ≡ at + length bytes

some_by : (n at : ℕ) (rest : List ℕ) → length rest ≤ n → begins is_white rest ≡ false → ((place : ℕ) (bytes : List ℕ) → length bytes < n → SomeEnd place bytes) → SomeEnd at rest
some_by n at [] le dark go = record { tokens = []; place = at; rest = []; cut = none_blank at []; ends = done refl; counted = refl }
some_by n at (b ∷ bs) le dark go = by (front (b ∷ bs)) (front_right b bs dark)
  where
    by : (f : Found) → Stands (b ∷ bs) f → SomeEnd at (b ∷ bs)
    by (found.Fault code) s = record { tokens = []; place = at; rest = b ∷ bs; cut = none_blank at (b ∷ bs); ends = stopped code s; counted = refl }
    by (found.Token k m) s =
        let more = go (at + m) (drop m (b ∷ bs)) (omega (arith, le, s.within, s.some, length-drop m (b ∷ bs))) in
        let t : Token = record { kind = k; start = at; end = at + m } in
        record {
          tokens = t ∷ more.tokens;
          place = more.place;
          rest = more.rest;
          cut = (drop m (b ∷ bs), next_token at (b ∷ bs) t (b ∷ bs) m (none_blank at (b ∷ bs)) refl s, more.cut);
          ends = more.ends;
          counted = omega (arith, more.counted, s.within, length-drop m (b ∷ bs));
        }

-- white space before a cut
white_before : (white rest : List ℕ) (at : ℕ) → list_all is_white white ≡ true → SomeEnd (at + length white) rest → SomeEnd at (white ++ rest)
white_before white rest at w s = by s.tokens s.cut
  where
    count : s.place + length s.rest ≡ at + length (white ++ rest)
    count = omega (arith, s.counted, length-append white rest)

    before : (p : ℕ) (more : List ℕ) → IsBlank (at + length white) rest p more → IsBlank at (white ++ rest) p more
    before p more b = record {
      white = white ++ b.white;
      bytes_are = ap (λ (x : List ℕ). white ++ x) b.bytes_are ∙ sym (append_assoc_ white b.white more);
      blank = all_append is_white white b.white w b.blank;
      place_is = omega (arith, b.place_is, length-append white b.white);
    }

    by : (ts : List Token) → CutTo (at + length white) rest ts s.place s.rest → SomeEnd at (white ++ rest)
    by [] c = record { tokens = []; place = s.place; rest = s.rest; cut = before s.place s.rest c; ends = s.ends; counted = count }
    by (t ∷ ts) (more, n, c) = record {
      tokens = t ∷ ts;
      place = s.place;
      rest = s.rest;
      cut = (more, record { text = n.text; blank = before t.start (n.text ++ more) n.blank; end = n.end; token = n.token }, c);
      ends = s.ends;
      counted = count;
    }

some_from : (n at : ℕ) (bytes : List ℕ) → ((place : ℕ) (more : List ℕ) → length more < n → SomeEnd place more) → length bytes ≤ n → SomeEnd at bytes
some_from n at bytes go le =
    let white = take (prefix_len is_white bytes) bytes in
    let rest = drop (prefix_len is_white bytes) bytes in
    let shorter : length rest ≤ n = omega (arith, le, length-drop (prefix_len is_white bytes) bytes) in
    subst (λ (x : List ℕ). SomeEnd at x) (sym (split_at (prefix_len is_white bytes) bytes))
    (white_before white rest at (run_passes is_white bytes) (some_by n (at + length white) rest shorter (run_stops is_white bytes) go))

pub some_end : (n at : ℕ) (bytes : List ℕ) → length bytes ≤ n → SomeEnd at bytes
some_end zero at bytes le = some_from zero at bytes (λ place more lt. absurd (omega (arith, lt))) le
some_end (suc n) at bytes le = some_from (suc n) at bytes (λ place more lt. some_end n place more (omega (arith, lt))) le

-- what is found at a place of a text stands there
pub stands_at : (text : List ℕ) (at : ℕ) (f : Found) → at < length text → is_white (get_or text at 0) ≡ false → f ≡ front (take (length text - at) (drop at text)) → Stands (drop at text) f
stands_at text at f lt dark e =
    let whole : drop at text ≡ get_or text at 0 ∷ drop (at + 1) text = drop_more text at 0 lt in
    let s = front_right (get_or text at 0) (drop (at + 1) text) dark in
    let same : front (get_or text at 0 ∷ drop (at + 1) text) ≡ f = ap front (sym whole) ∙ ap front (sym (to_end text at)) ∙ sym e in
    subst (λ (x : List ℕ). Stands x f) (sym whole) (subst (λ (x : Found). Stands (get_or text at 0 ∷ drop (at + 1) text) x) same s)
