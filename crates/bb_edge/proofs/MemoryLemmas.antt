-- A store in memory: its places once a name is given bytes, and what its calls give and leave.
use Rattle.std.proofs.Common.{◌≡◌, ℕ, ◌<◌, min, List, [], ◌∷◌, ◌++◌, length, take, drop, Option, Some, None, IfSome, refl, sym, ap, ◌∙◌, subst, arith, append-nil, length-take-le, take-append-drop}
use Rattle.std.proofs.lemmas.Grind.{common_steps}
use Rattle.std.specs.Option.{option_map}
use Rattle.bb_edge.specs.Told.{Told, Held, Left, Shows, Cuts, GivesFront, IsPrefix, Extends}
use Rattle.bb_edge.specs.Files.{FileValue, IsPlace, IsPlaceOf, held, told_text, with_file, file_name, bytes_at}
use Rattle.bb_edge.specs.Calls.{Calls}
use Rattle.bb_edge.specs.Memory.{Memory, HasPlaces, named_place, rest_in}
use Rattle.bb_edge.specs.declared.files.Place.{Place}
use Rattle.bb_edge.proofs.FileLemmas.{is_place-found, is_place-with_file}

-- the files keep their places when a name is given bytes
reading_first : (name bytes : List ℕ) (files : List FileValue) (reading : Option Place) → IfSome reading (λ place. IsPlace files place.file) → IfSome reading (λ place. IsPlace (with_file name bytes files) place.file)
reading_first name bytes files None h = h
reading_first name bytes files (Some place) h = (is_place-with_file (file_name files place.file) name bytes files place.file h).first

writing_first : (name bytes : List ℕ) (files : List FileValue) (writing : Option ℕ) → IfSome writing (λ file. IsPlace files file) → IfSome writing (λ file. IsPlace (with_file name bytes files) file)
writing_first name bytes files None h = h
writing_first name bytes files (Some file) h = (is_place-with_file (file_name files file) name bytes files file h).first

pub HasPlaces-with_file : (name bytes : List ℕ) (files : List FileValue) (reading : Option Place) (writing : Option ℕ) → HasPlaces files reading writing → HasPlaces (with_file name bytes files) reading writing
HasPlaces-with_file name bytes files reading writing h = record {
  reading_first = reading_first name bytes files reading h.reading_first;
  writing_first = writing_first name bytes files writing h.writing_first;
}

-- and their names
pub reading-with_file : (name bytes : List ℕ) (files : List FileValue) (reading : Option Place) → IfSome reading (λ place. IsPlace files place.file)
    → option_map (named_place (with_file name bytes files)) reading ≡ option_map (named_place files) reading
reading-with_file name bytes files None h = refl
reading-with_file name bytes files (Some place) h = ap (λ (n : List ℕ). Some (n, place.given)) (is_place-with_file (file_name files place.file) name bytes files place.file h).named

pub writing-with_file : (name bytes : List ℕ) (files : List FileValue) (writing : Option ℕ) → IfSome writing (λ file. IsPlace files file)
    → option_map (file_name (with_file name bytes files)) writing ≡ option_map (file_name files) writing
writing-with_file name bytes files None h = refl
writing-with_file name bytes files (Some file) h = ap Some (is_place-with_file (file_name files file) name bytes files file h).named

-- the bytes of a place are those that its name holds
pub held-at : (files : List FileValue) (place : ℕ) → IsPlace files place → held files (file_name files place) ≡ Held (bytes_at files place)
held-at files place h = (is_place-found (file_name files place) files place h).bytes

-- bytes were appended to what the name held
pub extends-held : (had bytes : List ℕ) (old new : Told) → old ≡ Held had → new ≡ Held (had ++ bytes) → Extends old new bytes
extends-held had bytes old new e f text shown =
    let was : had ≡ text = subst (λ (t : Told). Shows t text) e shown in
    subst (λ (t : Told). Shows t (text ++ bytes)) (sym f) (ap (λ (xs : List ℕ). xs ++ bytes) was)

-- no bytes were appended
pub extends-nothing : (old : Told) → Extends old old []
extends-nothing old text shown = subst (Shows old) (sym (append-nil text)) shown

empty : (xs : List ℕ) → length xs ≡ 0 → xs ≡ []
empty [] h = refl
empty (x ∷ xs) h = absurd (omega arith)

-- as many bytes were given as the buffer and the rest both have
pub gives : (rest buf new : List ℕ) (count : ℕ) → 0 < length buf → count ≡ min (length rest) (length buf) → new ≡ take count rest ++ drop count buf → GivesFront rest (take count new) (drop count rest)
gives rest buf new count room e f =
    let front : take count new ≡ take count rest = grind (arith, common_steps) in
    let long : length (take count rest) ≡ count = length-take-le count rest (omega arith) in
    record {
      split = sym (take-append-drop count rest) ∙ ap (λ (xs : List ℕ). xs ++ drop count rest) (sym front);
      at_end = (
        λ none. empty rest (omega (arith, long, ap length (sym front ∙ none))),
        λ none. empty (take count new) (omega (arith, long, ap length front, ap length none)),
      );
    }

-- contents that stay are cut to themselves
pub cuts-same : (writing : Option (List ℕ)) (old new : List FileValue) → new ≡ old → IfSome writing (λ name. Cuts (held old name) (held new name))
cuts-same None old new same = tt
cuts-same (Some name) old new same = λ text shown. (text, ([], append-nil text), subst (λ (files : List FileValue). Shows (held files name) text) (sym same) shown)

-- nothing was appended to contents that stay
pub front-same : (writing : Option (List ℕ)) (bytes : List ℕ) (old new : List FileValue) → new ≡ old → IfSome writing (λ name. (front : List ℕ) × IsPrefix front bytes × Extends (held old name) (held new name) front)
front-same None bytes old new same = tt
front-same (Some name) bytes old new same = ([], (bytes, refl), subst (λ (files : List FileValue). Extends (held old name) (held files name) []) (sym same) (extends-nothing (held old name)))

-- how a store in memory stands, by its places
abbrev pub memory_at : List FileValue → Option Place → Option ℕ → Calls → ℕ → ℕ → Memory
memory_at files reading writing calls read_faults write_faults = record {
  files = files;
  reading = option_map (named_place files) reading;
  writing = option_map (file_name files) writing;
  calls = calls;
  read_faults = read_faults;
  write_faults = write_faults;
}

-- a name was given bytes, and nothing else changed but the calls
pub memory-with_file : (name bytes : List ℕ) (files new : List FileValue) (reading : Option Place) (writing : Option ℕ) (calls now later : Calls) (reads writes : ℕ) (memory : Memory) → new ≡ with_file name bytes files → HasPlaces files reading writing
    → now ≡ later → memory_at files reading writing calls reads writes ≡ memory
    → memory_at new reading writing now reads writes ≡ record memory { files = with_file name bytes memory.files; calls = later }
memory-with_file name bytes files new reading writing calls now later reads writes memory is places step was =
    subst (λ (m : Memory). memory_at new reading writing now reads writes ≡ record m { files = with_file name bytes m.files; calls = later }) was
    (subst (λ (fs : List FileValue). memory_at fs reading writing now reads writes ≡ record (memory_at files reading writing calls reads writes) { files = with_file name bytes files; calls = later }) (sym is)
    (ap (λ (r : Option (List ℕ × ℕ)). record (memory_at (with_file name bytes files) reading writing now reads writes) { reading = r }) (reading-with_file name bytes files reading places.reading_first)
    ∙ ap (λ (w : Option (List ℕ)). record (memory_at (with_file name bytes files) reading writing now reads writes) { reading = option_map (named_place files) reading; writing = w }) (writing-with_file name bytes files writing places.writing_first)
    ∙ ap (λ (k : Calls). record (memory_at files reading writing calls reads writes) { files = with_file name bytes files; calls = k }) step))

-- a file was begun
pub memory-started : (name : List ℕ) (files new : List FileValue) (file : ℕ) (reading : Option Place) (writing : Option ℕ) (calls now later : Calls) (reads writes : ℕ) (memory : Memory) → new ≡ with_file name [] files → IsPlaceOf new name file
    → HasPlaces files reading writing → now ≡ later → memory_at files reading writing calls reads writes ≡ memory
    → memory_at new reading (Some file) now reads writes ≡ record memory { files = with_file name [] memory.files; calls = later; writing = Some name }
memory-started name files new file reading writing calls now later reads writes memory is place places step was =
    ap (λ (n : List ℕ). record (memory_at new reading writing now reads writes) { writing = Some n }) place.named
    ∙ ap (λ (m : Memory). record m { writing = Some name }) (memory-with_file name [] files new reading writing calls now later reads writes memory is places step was)

-- what is left of a place's bytes is what is told
pub rest-at : (files : List FileValue) (reading : Option Place) (place : Place) (rest : List ℕ) → reading ≡ Some place → IfSome reading (λ p. IsPlace files p.file) → rest_in files (option_map (named_place files) reading) ≡ Left rest
    → drop place.given (bytes_at files place.file) ≡ rest
rest-at files None place rest is h e = cc
rest-at files (Some p) place rest is h e =
    let told : Left (drop p.given (bytes_at files p.file)) ≡ Left rest = ap (λ (t : Told). Left (drop p.given (told_text t))) (sym (held-at files p.file h)) ∙ e in
    let one : p ≡ place = cc in
    subst (λ (k : Place). drop k.given (bytes_at files k.file) ≡ rest) one cc

-- a fact on the name that is written
pub at_name : (writing : Option (List ℕ)) (name : List ℕ) (P : List ℕ → Type 0) → writing ≡ Some name → P name → IfSome writing P
at_name writing name P is h = subst (λ (w : Option (List ℕ)). IfSome w P) (sym is) h
