-- The machine goes on exactly while a whole module can follow, and gives exactly the module of its tokens.
use Rattle.std.proofs.Common.{◌≡◌, ◌⊎◌, ◌↔◌, inl, inr, ℕ, List, [], ◌∷◌, ◌++◌, Some, None, Result, Ok, Err, Bool, true, false, refl, sym, ◌∙◌, ap, subst, append_assoc, append-nil, if◌then◌else◌}
use Rattle.bb_base.specs.declared.token.Token.{Token}
use Rattle.bb_base.specs.declared.token.TokenKind.{TokenKind}
use Rattle.bb_parse.specs.declared.draft.Draft.{Draft}
use Rattle.bb_parse.specs.declared.symbol.Symbol.{Symbol}
use Rattle.bb_parse.specs.declared.symbol.Symbol.TheVariants as symbols
use Rattle.bb_parse.specs.declared.syntax.Module.{Module}
use Rattle.bb_parse.specs.declared.fault.ParseFault.{ParseFault}
use Rattle.bb_parse.specs.declared.fault.ParseFault.TheVariants as faults
use Rattle.bb_parse.specs.Trees.{Name, Whole, NoAnds, NoXors, NoOrs, NoChoice, File}
use Rattle.bb_parse.specs.Grammar.{file}
use Rattle.bb_parse.specs.Meaning.{module_of, Denotes, IsFront, IsFirstBad, HasFirstBad}
use Rattle.bb_parse.specs.Drafts.{no_draft, module_by}
use Rattle.bb_parse.specs.Passes.{passes, passed}
use Rattle.bb_parse.specs.Moves.{Move}
use Rattle.bb_parse.specs.Machine.{Parsing, Going, Failed, read_by, after_move, passed_on, step, run, start, whole, end, Rejects}
use Rattle.bb_grammar.proofs.Headers.{reads_file}
use Rattle.bb_grammar.proofs.Spelled.{token, all_span}
use Rattle.bb_grammar.proofs.Back.{back_read}
use Rattle.bb_grammar.proofs.Live.{all_live}

-- ---- from what follows back to the start
back_pass : (s : Symbol) (k : TokenKind) (ss : List Symbol) (ts : List Token) → passes s k ≡ true → all_span ss ts → all_span (s ∷ ss) ts
back_pass (symbols.Put m) k ss ts h sp = (ts, refl, sp)
back_pass (symbols.Select side) k ss ts h sp = (ts, (Whole, refl), sp)
back_pass symbols.Operators k ss ts h sp = (ts, (NoAnds, NoXors, NoOrs, NoChoice, (ts, refl, (ts, refl, (ts, refl, refl)))), sp)
back_pass symbols.Ands k ss ts h sp = (ts, (NoAnds, refl), sp)
back_pass symbols.Xors k ss ts h sp = (ts, (NoXors, refl), sp)
back_pass symbols.Ors k ss ts h sp = (ts, (NoOrs, refl), sp)
back_pass symbols.Choice k ss ts h sp = (ts, (NoChoice, refl), sp)
back_pass _ k ss ts h sp = cc

going_same : (p q : List Symbol) (d e : Draft) → Going p d ≡ Going q e → p ≡ q
going_same p q d e h = cc

back_moved : (s : Symbol) (k : TokenKind) (line : ℕ) (d : Draft) (more p : List Symbol) (e : Draft) (ts : List Token) (b : Move) → read_by s k line d ≡ b → after_move b more line ≡ Going p e → all_span p ts → all_span (s ∷ more) (token k line ∷ ts)
back_moved s k line d more p e ts None is h sp = cc
back_moved s k line d more p e ts (Some m) is h sp = back_read s k line d m more ts is (subst (λ l. all_span l ts) (sym (going_same (m.0 ++ more) p m.1 e h)) sp)

back_by : (s : Symbol) (k : TokenKind) (line : ℕ) (d : Draft) (more p : List Symbol) (e : Draft) (ts : List Token) (b : Bool) → passes s k ≡ b → (passed_on more (passed s d) k line ≡ Going p e → all_span more (token k line ∷ ts)) → (if b then passed_on more (passed s d) k line else after_move (read_by s k line d) more line) ≡ Going p e → all_span p ts → all_span (s ∷ more) (token k line ∷ ts)
back_by s k line d more p e ts true is below h sp = back_pass s k more (token k line ∷ ts) is (below h)
back_by s k line d more p e ts false is below h sp = back_moved s k line d more p e ts (read_by s k line d) refl h sp

back_feed : (ss : List Symbol) (d : Draft) (k : TokenKind) (line : ℕ) (p : List Symbol) (e : Draft) (ts : List Token) → passed_on ss d k line ≡ Going p e → all_span p ts → all_span ss (token k line ∷ ts)
back_feed [] d k line p e ts h sp = cc
back_feed (s ∷ more) d k line p e ts h sp = back_by s k line d more p e ts (passes s k) refl (λ g. back_feed more (passed s d) k line p e ts g sp) h sp

-- a fault stands
pub run_failed : (fault : ParseFault) (ts : List Token) → run (Failed fault) ts ≡ Failed fault
run_failed fault [] = refl
run_failed fault (t ∷ ts) = run_failed fault ts

pub run_both : (p : Parsing) (ts more : List Token) → run p (ts ++ more) ≡ run (run p ts) more
run_both p [] more = refl
run_both p (t ∷ ts) more = run_both (step p t) ts more

not_both : (fault : ParseFault) (ts : List Token) (p : List Symbol) (d : Draft) → run (Failed fault) ts ≡ Going p d → ⊥
not_both fault ts p d h = apart fault p d (sym (run_failed fault ts) ∙ h)
  where
    apart : (fault : ParseFault) (p : List Symbol) (d : Draft) → Failed fault ≡ Going p d → ⊥
    apart fault p d h = cc

back_run : (front : List Token) (ss : List Symbol) (d : Draft) (p : List Symbol) (e : Draft) (ts : List Token) → run (Going ss d) front ≡ Going p e → all_span p ts → all_span ss (front ++ ts)
back_run [] ss d p e ts h sp = subst (λ l. all_span l ts) (sym (going_same ss p d e h)) sp
back_run (t ∷ front) ss d p e ts h sp = by (passed_on ss d t.kind t.line) refl h (λ q f g. back_run front q f p e ts g sp)
  where
    by : (r : Parsing) → passed_on ss d t.kind t.line ≡ r → run r front ≡ Going p e → ((q : List Symbol) (f : Draft) → run (Going q f) front ≡ Going p e → all_span q (front ++ ts)) → all_span ss (t ∷ (front ++ ts))
    by (Going q f) is g below = back_feed ss d t.kind t.line q f (front ++ ts) is (below q f g)
    by (Failed fault) is g below = absurd (not_both fault front p e g)

to_file : (ts : List Token) → all_span (symbols.File ∷ []) ts → (f : File) × file f ts []
to_file ts (mid, (f, s), none) = (f, subst (λ r. file f ts r) none s)

pub goes_front : (front : List Token) (p : List Symbol) (d : Draft) → run start front ≡ Going p d → IsFront front
goes_front front p d h =
    let (rest, proper, sp) = all_live p in
    (rest, proper, to_file (front ++ rest) (back_run front (symbols.File ∷ []) no_draft p d rest h sp))

-- ---- a whole file, and every front of one, is read
reads_whole : (f : File) (ts : List Token) → file f ts [] → (d : Draft) × (run start ts ≡ Going [] d) × (d.name ≡ Some f.name) × (module_by f.name d ≡ module_of f)
reads_whole f ts s =
    let (d, r, (named, same)) = reads_file f ts [] s in
    (d, r, named, same)

front_goes : (front rest : List Token) (f : File) → file f (front ++ rest) [] → (p : Parsing) → run start front ≡ p → (ss : List Symbol) × (d : Draft) × (p ≡ Going ss d)
front_goes front rest f s (Going ss d) is = (ss, d, refl)
front_goes front rest f s (Failed fault) is =
    let (d, r, named, same) = reads_whole f (front ++ rest) s in
    absurd (not_both fault rest [] d (ap (λ p. run p rest) (sym is) ∙ sym (run_both start front rest) ∙ r))

-- ---- the token that is refused
feed_fault : (ss : List Symbol) (d : Draft) (k : TokenKind) (line : ℕ) (fault : ParseFault) → passed_on ss d k line ≡ Failed fault → passed_on ss d k line ≡ Failed (faults.Unreadable line)
feed_fault [] d k line fault h = refl
feed_fault (s ∷ more) d k line fault h = by (passes s k) h (λ g. feed_fault more (passed s d) k line fault g)
  where
    move_fault : (m : Move) → after_move m more line ≡ Failed fault → after_move m more line ≡ Failed (faults.Unreadable line)
    move_fault None g = refl
    move_fault (Some m) g = cc

    by : (b : Bool) → (if b then passed_on more (passed s d) k line else after_move (read_by s k line d) more line) ≡ Failed fault → (passed_on more (passed s d) k line ≡ Failed fault → passed_on more (passed s d) k line ≡ Failed (faults.Unreadable line)) → (if b then passed_on more (passed s d) k line else after_move (read_by s k line d) more line) ≡ Failed (faults.Unreadable line)
    by true g below = below g
    by false g below = move_fault (read_by s k line d) g

one_behind : (front rest : List Token) (t : Token) → (front ++ t ∷ []) ++ rest ≡ front ++ t ∷ rest
one_behind front rest t = append_assoc front (t ∷ []) rest

bad_refused : (front : List Token) (t : Token) (ss : List Symbol) (d : Draft) → run start front ≡ Going ss d → IsFirstBad front t → (r : Parsing) → passed_on ss d t.kind t.line ≡ r → passed_on ss d t.kind t.line ≡ Failed (faults.Unreadable t.line)
bad_refused front t ss d is bad (Failed fault) fed = feed_fault ss d t.kind t.line fault fed
bad_refused front t ss d is bad (Going p e) fed =
    let (rest, proper, (f, s)) = goes_front (front ++ t ∷ []) p e (run_both start front (t ∷ []) ∙ ap (λ q. step q t) is ∙ fed) in
    absurd (bad.none rest f (subst (λ ts. file f ts []) (one_behind front rest t) s))

refuses_at : (p q : Parsing) (t : Token) → p ≡ q → Rejects q t → Rejects p t
refuses_at p q t is r = subst (λ x. Rejects x t) (sym is) r

bad_to : (front : List Token) (t : Token) → IsFirstBad front t → Rejects (run start front) t
bad_to front t bad =
    let (rest, proper, (f, s)) = bad.goes_on in
    let (ss, d, is) = front_goes front rest f s (run start front) refl in
    refuses_at (run start front) (Going ss d) t is (bad_refused front t ss d is bad (passed_on ss d t.kind t.line) refl)

refused_bad : (front : List Token) (t : Token) (p : Parsing) → run start front ≡ p → Rejects p t → IsFirstBad front t
refused_bad front t (Failed fault) is r = absurd r
refused_bad front t (Going ss d) is r = record {
  goes_on = goes_front front ss d is;
  none = λ rest f s.
      let (e, whole_run, named, same) = reads_whole f (front ++ t ∷ rest) s in
      not_both (faults.Unreadable t.line) rest [] e (ap (λ p. run p rest) (sym r) ∙ ap (λ p. run (step p t) rest) (sym is) ∙ sym (run_both start front (t ∷ rest)) ∙ whole_run);
}

pub refusal : (front : List Token) (t : Token) → IsFirstBad front t ↔ Rejects (run start front) t
refusal front t = (bad_to front t, refused_bad front t (run start front) refl)

pub stands : (front rest : List Token) (t : Token) → IsFirstBad front t → run start (front ++ t ∷ rest) ≡ Failed (faults.Unreadable t.line)
stands front rest t bad = run_both start front (t ∷ rest) ∙ by (run start front) (bad_to front t bad)
  where
    by : (p : Parsing) → Rejects p t → run (step p t) rest ≡ Failed (faults.Unreadable t.line)
    by (Going ss d) r = ap (λ p. run p rest) r ∙ run_failed (faults.Unreadable t.line) rest
    by (Failed fault) r = absurd r

-- ---- each list of tokens goes on, or has a first bad token
split_from : (rest front : List Token) (p : Parsing) → run start front ≡ p → (ss : List Symbol) (d : Draft) → p ≡ Going ss d → IsFront (front ++ rest) ⊎ HasFirstBad (front ++ rest)
split_from [] front p is ss d going = inl (subst IsFront (sym (append-nil front)) (goes_front front ss d (is ∙ going)))
split_from (t ∷ rest) front p is ss d going = by (passed_on ss d t.kind t.line) refl (λ q fed. split_from rest (front ++ t ∷ []) q (run_both start front (t ∷ []) ∙ ap (λ x. step x t) (is ∙ going) ∙ fed))
  where
    at_front : IsFront ((front ++ t ∷ []) ++ rest) ⊎ HasFirstBad ((front ++ t ∷ []) ++ rest) → IsFront (front ++ t ∷ rest) ⊎ HasFirstBad (front ++ t ∷ rest)
    at_front x = subst (λ ts. IsFront ts ⊎ HasFirstBad ts) (one_behind front rest t) x

    by : (q : Parsing) → passed_on ss d t.kind t.line ≡ q → ((q : Parsing) → passed_on ss d t.kind t.line ≡ q → (ss : List Symbol) (d : Draft) → q ≡ Going ss d → IsFront ((front ++ t ∷ []) ++ rest) ⊎ HasFirstBad ((front ++ t ∷ []) ++ rest)) → IsFront (front ++ t ∷ rest) ⊎ HasFirstBad (front ++ t ∷ rest)
    by (Going more e) fed further = at_front (further (Going more e) fed more e refl)
    by (Failed fault) fed further = inr (front, t, rest, refl, refused_bad front t (Going ss d) (is ∙ going) (feed_fault ss d t.kind t.line fault fed))

pub split : (tokens : List Token) → IsFront tokens ⊎ HasFirstBad tokens
split tokens = split_from tokens [] start refl (symbols.File ∷ []) no_draft refl

-- ---- the module
end_whole : (d : Draft) (line : ℕ) (x : Name) (m : Module) → d.name ≡ Some x → module_by x d ≡ m → end (Going [] d) line ≡ Ok m
end_whole d line x m named same = ap (λ o. whole o d line) named ∙ ap (λ v. Ok v) same

file_end : (f : File) (tokens : List Token) (line : ℕ) → file f tokens [] → end (run start tokens) line ≡ Ok (module_of f)
file_end f tokens line s =
    let (d, r, named, same) = reads_whole f tokens s in
    ap (λ p. end p line) r ∙ end_whole d line f.name (module_of f) named same

denoted_end : (tokens : List Token) (m : Module) (line : ℕ) → Denotes tokens m → end (run start tokens) line ≡ Ok m
denoted_end tokens m line (f, s, same) = file_end f tokens line s ∙ ap (λ v. Ok v) same

ok_same : (a b : Module) → ◌≡◌ {A = Result Module ParseFault} (Ok a) (Ok b) → a ≡ b
ok_same a b h = cc

whole_file : (tokens : List Token) (d : Draft) → run start tokens ≡ Going [] d → (f : File) × file f tokens []
whole_file tokens d is = to_file tokens (subst (λ ts. all_span (symbols.File ∷ []) ts) (append-nil tokens) (back_run tokens (symbols.File ∷ []) no_draft [] d [] is refl))

end_denoted : (tokens : List Token) (m : Module) (line : ℕ) (p : Parsing) → run start tokens ≡ p → end p line ≡ Ok m → Denotes tokens m
end_denoted tokens m line (Failed fault) is h = cc
end_denoted tokens m line (Going (s ∷ more) d) is h = cc
end_denoted tokens m line (Going [] d) is h =
    let (f, s) = whole_file tokens d is in
    (f, s, ok_same (module_of f) m (sym (file_end f tokens line s) ∙ ap (λ p. end p line) is ∙ h))

pub exact : (tokens : List Token) (m : Module) (line : ℕ) → Denotes tokens m ↔ (end (run start tokens) line ≡ Ok m)
exact tokens m line = (denoted_end tokens m line, end_denoted tokens m line (run start tokens) refl)

pub one_module : (tokens : List Token) (a b : Module) → Denotes tokens a → Denotes tokens b → a ≡ b
one_module tokens a b h g = ok_same a b (sym (denoted_end tokens a 0 h) ∙ denoted_end tokens b 0 g)

cut_short : (tokens : List Token) (line : ℕ) (ss : List Symbol) (d : Draft) → run start tokens ≡ Going ss d → ((m : Module) → Denotes tokens m → ⊥) → end (Going ss d) line ≡ Err (faults.Unreadable line)
cut_short tokens line [] d is none = let (f, s) = whole_file tokens d is in absurd (none (module_of f) (f, s, refl))
cut_short tokens line (s ∷ more) d is none = refl

not_ok : (tokens : List Token) (line : ℕ) → end (run start tokens) line ≡ Err (faults.Unreadable line) → (m : Module) → Denotes tokens m → ⊥
not_ok tokens line h m denotes = apart m (sym (denoted_end tokens m line denotes) ∙ h)
  where
    apart : (m : Module) → ◌≡◌ {A = Result Module ParseFault} (Ok m) (Err (faults.Unreadable line)) → ⊥
    apart m g = cc

pub no_end : (tokens : List Token) (line : ℕ) → IsFront tokens → ((m : Module) → Denotes tokens m → ⊥) ↔ (end (run start tokens) line ≡ Err (faults.Unreadable line))
no_end tokens line (rest, proper, (f, s)) =
    let (ss, d, is) = front_goes tokens rest f s (run start tokens) refl in
    (λ none. ap (λ p. end p line) is ∙ cut_short tokens line ss d is none, not_ok tokens line)
