-- Each kind of word is read as the grammar says, and nothing else is.
use Rattle.std.proofs.Common.{◌≡◌, ℕ, ◌*◌, ◌<◌, ◌≤◌, Bool, true, false, cond, ◌&&◌, ltb, leb, eqb, List, [], ◌∷◌, ◌++◌, length, Option, Some, None, Result, Ok, Err, refl, sym, ap, subst, ◌∙◌, codes, arith, append_assoc, not, suc}
use Rattle.std.specs.Prelude.{MatchOption, nat_lt}
use Rattle.std.proofs.lemmas.Bool.Decides.{nat_tests}
use Rattle.std.specs.List.{repeat, AllPass}
use Rattle.std.proofs.lemmas.List.{append-nil, length-append}
use Rattle.std.proofs.lemmas.List.Elements.{All-head, All-tail}
use Rattle.std.specs.Str.{bytes_eq}
use Rattle.std.specs.Str.Parse.{digits_value}
use Rattle.std.proofs.lemmas.Bool.{true≢false, ltb-true, lt-ltb, leb-true, le-leb, eqb-true, ne_eqb}
use Rattle.std.proofs.lemmas.Slice.Eq.{bytes_eq-Decides}
use Rattle.hex.specs.declared.error.FromHexError.{FromHexError}
use Rattle.hex.specs.Hex.{decode_of, decode_sized, is_hex_digit}
use Rattle.hex.proofs.HexLemmas.{decode_of-ok, decode_sized-ok, decode_sized-twice}
use Rattle.iw_octets.specs.declared.constants.TheConstants.{MAX_PRIVATE}
use Rattle.iw_octets.specs.declared.stag.Stag.{Stag}
use Rattle.iw_octets.specs.Stag.{stag_at}
use Rattle.iw_memory.specs.declared.rights.Rights.{Rights}
use Rattle.iw_events.specs.declared.call.Options.{Options}
use Rattle.iw_schedules.specs.declared.send_kind.SendKind.{SendKind}
use Rattle.iw_schedules.specs.declared.send_kind.SendKind.TheVariants.{Plain, Solicited, Invalidate, Both}
use Rattle.iw_schedules.specs.declared.fault.FaultName.{FaultName}
use Rattle.iw_schedules.specs.declared.fault.FaultName.TheVariants.{BadNumber, BadOctets}
use Rattle.iw_schedules.specs.declared.kinds.TheConstants.{MAX_WORD_OCTETS, MAX_TIMES}
use Rattle.iw_schedules.specs.Reading.{◌>>=◌, or_fault}
use Rattle.iw_schedules.specs.Pieces.{split_at_first}
use Rattle.iw_schedules.specs.Kinds.{is_decimal, number_word, times_word, stag_word, hex_word, count_word, octets_word, private_word}
use Rattle.iw_schedules.specs.Words.{one_of}
use Rattle.iw_schedules.specs.SendKind.{send_text, send_kinds, kind_word, is_solicited, some_stag_word, invalidated_word}
use Rattle.iw_schedules.specs.Letters.{letter_if, letter_at}
use Rattle.iw_schedules.specs.Rights.{no_rights, letters_of, lettered, rights_word, IsRights}
use Rattle.iw_schedules.specs.Rights.IsRights.{none_granted, granted}
use Rattle.iw_startup.specs.declared.config.Establishment.{Establishment}
use Rattle.iw_startup.specs.declared.config.Establishment.TheVariants.{Plain, Enhanced, PeerToPeer}
use Rattle.iw_stream.specs.declared.answer.Role.{Role}
use Rattle.iw_schedules.specs.Options.{no_options, suits, option_letters, established, optional, options_word, options_for, IsOptions, IsOptionsOf}
use Rattle.iw_schedules.specs.Options.IsOptions.{none_asked, asked}
use Rattle.iw_schedules.specs.Grammar.{Word, IsNumber, IsTimes, IsHex, IsStag, IsOctets, IsPrivate, IsKind}
use Rattle.iw_schedules.specs.Grammar.IsOctets.{none, once, repeated}
use Rattle.iw_schedules.specs.Grammar.IsKind.{plain, solicited, invalidating, both}

-- ---- steps

-- the value of a step that did not fail
pub bind_ok : {A B : Type 0} (r : Result A FaultName) (f : A → Result B FaultName) (y : B) → (r >>= f) ≡ Ok y → (x : A) × (r ≡ Ok x) × (f x ≡ Ok y)
bind_ok (Ok x) f y e = (x, refl, e)
bind_ok (Err fault) f y e = absurd cc

abbrev pub okay : {A : Type 0} (E : Type 0) → A → Result A E
okay E x = Ok x

pub or_fault_ok : {A E : Type 0} (fault : FaultName) (r : Result A E) (y : A) → or_fault fault r ≡ Ok y → r ≡ Ok y
or_fault_ok {A} {E} fault (Ok x) y e = let same : x ≡ y = cc in ap (okay E) same
or_fault_ok fault (Err x) y e = absurd cc

-- a test that passed
pub if_ok : {A : Type 0} (b : Bool) (fault : FaultName) (x y : A) → cond b (Ok x) (Err fault) ≡ Ok y → (b ≡ true) × (x ≡ y)
if_ok true fault x y e = (refl, cc)
if_ok false fault x y e = absurd cc

and_true : (a b : Bool) → (a && b) ≡ true → (a ≡ true) × (b ≡ true)
and_true true b e = (refl, e)
and_true false b e = absurd cc

-- ---- numbers

pub number_is : (most : ℕ) (word : Word) (n : ℕ) → number_word most word ≡ Ok n → IsNumber most word n
unfolding number_word
number_is most word n e =
    let t = if_ok (is_decimal word && leb (digits_value 10 word) most) BadNumber (digits_value 10 word) n e in
    let both = and_true (is_decimal word) (leb (digits_value 10 word) most) t.0 in
    record { digits = both.0; value = t.1; bound = rw (← t.1) (leb-true _ _ both.1) }

pub number_again : (most : ℕ) (word : Word) (n : ℕ) → IsNumber most word n → number_word most word ≡ Ok n
unfolding number_word
number_again most word n is = rw (is.digits, is.value, le-leb n most is.bound) refl

pub times_is : (word : Word) (n : ℕ) → times_word word ≡ Ok n → IsTimes word n
unfolding times_word
times_is word n e =
    let a = bind_ok (number_word MAX_TIMES word) _ n e in
    let t = if_ok (ltb 0 a.0) BadNumber a.0 n a.2 in
    record { number = number_is MAX_TIMES word n (rw t.1 at a.1); some = rw (← t.1) (ltb-true _ _ t.0) }

pub times_again : (word : Word) (n : ℕ) → IsTimes word n → times_word word ≡ Ok n
unfolding times_word
times_again word n is = rw (number_again MAX_TIMES word n is.number, lt-ltb 0 n is.some) refl

-- ---- octets

pub hex_is : (word : Word) (octets : List ℕ) → hex_word word ≡ Ok octets → IsHex word octets
unfolding hex_word
hex_is word octets e =
    let a = bind_ok (or_fault BadOctets (decode_of word)) _ octets e in
    let t = if_ok (ltb 0 (length a.0)) BadOctets a.0 octets a.2 in
    record { digits = or_fault_ok BadOctets (decode_of word) octets (rw t.1 at a.1); some = rw (← t.1) (ltb-true _ _ t.0) }

pub hex_again : (word : Word) (octets : List ℕ) → IsHex word octets → hex_word word ≡ Ok octets
unfolding hex_word
hex_again word octets is = rw (is.digits, lt-ltb 0 (length octets) is.some) refl

pub stag_is : (word : Word) (stag : Stag) → stag_word word ≡ Ok stag → IsStag word stag
unfolding stag_word
stag_is word stag e =
    let a = bind_ok (or_fault BadNumber (decode_sized word 4)) (λ octets. Ok (stag_at octets 0)) stag e in
    let sized = or_fault_ok BadNumber (decode_sized word 4) a.0 a.1 in
    let digits : decode_of word ≡ Ok a.0 = sym (decode_sized-twice word 4 (decode_sized-ok word 4 a.0 sized)) ∙ sized in
    let four : length a.0 ≡ 4 = omega (arith, decode_sized-ok word 4 a.0 sized, (decode_of-ok word a.0 digits).2) in
    record { octets = a.0; digits = record { digits = digits; some = omega arith }; four = four; value = cc (a.2) }

pub stag_again : (word : Word) (stag : Stag) → IsStag word stag → stag_word word ≡ Ok stag
unfolding stag_word
stag_again word stag is =
    let len : length word ≡ 2 * 4 = omega (arith, is.four, (decode_of-ok word is.octets is.digits.digits).2) in
    let sized : decode_sized word 4 ≡ Ok is.octets = decode_sized-twice word 4 len ∙ is.digits.digits in
    ap (λ (r : Result (List ℕ) FromHexError). or_fault BadNumber r >>= λ octets. Ok (stag_at octets 0)) sized ∙ ap (okay FaultName) is.value

-- ---- octets that may be repeated

-- these parts around a separator make up the whole
abbrev Joins : ℕ → List ℕ → List ℕ → Option (List ℕ) → Type 0
Joins separator xs front beyond = MatchOption beyond (xs ≡ front) (λ rest. xs ≡ front ++ separator ∷ rest)

joins_onto : (separator x : ℕ) (xs front : List ℕ) (beyond : Option (List ℕ)) → Joins separator xs front beyond → Joins separator (x ∷ xs) (x ∷ front) beyond
joins_onto separator x xs front None e = ap (λ ys. x ∷ ys) e
joins_onto separator x xs front (Some rest) e = ap (λ ys. x ∷ ys) e

joins_at : (separator x : ℕ) (xs : List ℕ) (b : Bool) → eqb x separator ≡ b → Joins separator xs (split_at_first separator xs).0 (split_at_first separator xs).1
    → Joins separator (x ∷ xs) (split_at_first separator (x ∷ xs)).0 (split_at_first separator (x ∷ xs)).1
joins_at separator x xs true e others = rw e (ap (λ y. y ∷ xs) (eqb-true x separator e))
joins_at separator x xs false e others = rw e (joins_onto separator x xs (split_at_first separator xs).0 (split_at_first separator xs).1 others)

pub split_joins : (separator : ℕ) (xs : List ℕ) → Joins separator xs (split_at_first separator xs).0 (split_at_first separator xs).1
split_joins separator [] = refl
split_joins separator (x ∷ xs) = joins_at separator x xs (eqb x separator) refl (split_joins separator xs)

-- a digit is no separator
digit_is_no_star : (x : ℕ) → is_hex_digit x ≡ true → eqb x 42 ≡ false
digit_is_no_star x digit = ne_eqb x 42 (λ same. let no : is_hex_digit 42 ≡ true = rw same at digit in absurd cc)

abbrev AreDigits : List ℕ → Type 0
AreDigits word = AllPass is_hex_digit word

head_of : (x : ℕ) (xs : List ℕ) → AreDigits (x ∷ xs) → is_hex_digit x ≡ true
head_of x xs all = All-head (λ c. is_hex_digit c ≡ true) x xs all

tail_of : (x : ℕ) (xs : List ℕ) → AreDigits (x ∷ xs) → AreDigits xs
tail_of x xs all = All-tail (λ c. is_hex_digit c ≡ true) x xs all

digits_alone : (word : Word) → AreDigits word → split_at_first 42 word ≡ (word, None)
digits_alone [] all = refl
digits_alone (x ∷ xs) all = rw (digit_is_no_star x (head_of x xs all), digits_alone xs (tail_of x xs all)) refl

digits_then : (word count : Word) → AreDigits word → split_at_first 42 (word ++ 42 ∷ count) ≡ (word, Some count)
digits_then [] count all = refl
digits_then (x ∷ xs) count all = rw (digit_is_no_star x (head_of x xs all), digits_then xs count (tail_of x xs all)) refl

no_dash : (word : Word) (b : Bool) → bytes_eq word (codes "-") ≡ b → 1 < length word → b ≡ false
no_dash word true e lt = let same : word ≡ codes "-" = (bytes_eq-Decides word (codes "-")).0 e in absurd (omega (arith, ap length same))
no_dash word false e lt = refl

too_long : (word : Word) → 1 < length word → bytes_eq word (codes "-") ≡ false
too_long word lt = no_dash word (bytes_eq word (codes "-")) refl lt

octets_counted : (word front octets out : List ℕ) (n : ℕ) (beyond : Option (List ℕ)) → Joins 42 word front beyond → IsHex front octets → count_word beyond ≡ Ok n
    → n * length octets ≤ MAX_WORD_OCTETS → repeat n octets ≡ out → IsOctets word out
octets_counted word front octets out n None joins hex counted few made =
    let one : 1 ≡ n = cc in
    let same : octets ≡ out = sym (append-nil octets) ∙ (ap (λ k. repeat k octets) one ∙ made) in
    let len : length octets ≤ MAX_WORD_OCTETS = omega (arith, subst (λ k. k * length octets ≤ MAX_WORD_OCTETS) (sym one) few) in
    subst (λ w. IsOctets w out) (sym joins) (subst (λ o. IsOctets front o) same (once hex len))
octets_counted word front octets out n (Some count) joins hex counted few made =
    let number = number_is MAX_WORD_OCTETS count n (or_fault_ok BadOctets (number_word MAX_WORD_OCTETS count) n counted) in
    subst (λ w. IsOctets w out) (sym joins) (subst (λ o. IsOctets (front ++ 42 ∷ count) o) made (repeated hex number few))

octets_told : (word octets : List ℕ) (b : Bool) → bytes_eq word (codes "-") ≡ b → octets_word word ≡ Ok octets → IsOctets word octets
unfolding octets_word
octets_told word octets true dash e =
    let same : word ≡ codes "-" = (bytes_eq-Decides word (codes "-")).0 dash in
    let none_is : [] ≡ octets = cc (rw dash at e) in
    subst (λ w. IsOctets w octets) (sym same) (subst (λ o. IsOctets (codes "-") o) none_is none)
octets_told word octets false dash e =
    let read = rw dash at e in
    let split = split_at_first 42 word in
    let hex = bind_ok (hex_word split.0) _ octets read in
    let count = bind_ok (count_word split.1) _ octets hex.2 in
    let few = if_ok (leb (count.0 * length hex.0) MAX_WORD_OCTETS) BadOctets (repeat count.0 hex.0) octets count.2 in
    octets_counted word split.0 hex.0 octets count.0 split.1 (split_joins 42 word) (hex_is split.0 hex.0 hex.1) count.1 (leb-true _ _ few.0) few.1

pub octets_is : (word octets : List ℕ) → octets_word word ≡ Ok octets → IsOctets word octets
octets_is word octets e = octets_told word octets (bytes_eq word (codes "-")) refl e

pub octets_again : (word octets : List ℕ) → IsOctets word octets → octets_word word ≡ Ok octets
unfolding octets_word
octets_again word octets none = refl
octets_again word octets (once hex few) =
    let ok = decode_of-ok word octets hex.digits in
    let long : 1 < length word = omega (arith, hex.some, ok.2) in
    rw (too_long word long, digits_alone word ok.1, hex_again word octets hex, le-leb (1 * length octets) MAX_WORD_OCTETS (omega arith)) (ap (okay FaultName) (append-nil octets))
octets_again word out (repeated {word = digits} {count} {octets} {n} hex number few) =
    let ok = decode_of-ok digits octets hex.digits in
    let long : 1 < length (digits ++ 42 ∷ count) = omega (arith, hex.some, ok.2, length-append digits (42 ∷ count)) in
    rw (too_long (digits ++ 42 ∷ count) long, digits_then digits count ok.1, hex_again digits octets hex, number_again MAX_WORD_OCTETS count n number, le-leb (n * length octets) MAX_WORD_OCTETS few) refl

pub private_is : (word octets : List ℕ) → private_word word ≡ Ok octets → IsPrivate word octets
unfolding private_word
private_is word octets e =
    let a = bind_ok (octets_word word) _ octets e in
    let t = if_ok (leb (length a.0) MAX_PRIVATE) BadOctets a.0 octets a.2 in
    record { digits = octets_is word octets (rw t.1 at a.1); few = rw (← t.1) (leb-true _ _ t.0) }

pub private_again : (word octets : List ℕ) → IsPrivate word octets → private_word word ≡ Ok octets
unfolding private_word
private_again word octets is = rw (octets_again word octets is.digits, le-leb (length octets) MAX_PRIVATE is.few) refl

-- ---- letters

-- a letter that stands at the front, and what stands behind it, are the word
letter_told : (letter : ℕ) (word : Word) → letter_if (letter_at letter word).0 letter ++ (letter_at letter word).1 ≡ word
letter_told letter [] = refl
letter_told letter (x ∷ xs) =
    let some : nat_lt 0 (length (x ∷ xs)) ≡ true = grind (arith, nat_tests) in rw some (go (eqb x letter) refl)
  where
    go : (b : Bool) → eqb x letter ≡ b → letter_if (cond {A = Bool × Word} b (true, xs) (false, x ∷ xs)).0 letter ++ (cond {A = Bool × Word} b (true, xs) (false, x ∷ xs)).1 ≡ x ∷ xs
    go true e = ap (λ y. y ∷ xs) (sym (eqb-true x letter e))
    go false e = refl

nothing_left : (word : Word) → eqb (length word) 0 ≡ true → word ≡ []
nothing_left word e = go word (eqb-true (length word) 0 e)
  where
    some : (n : ℕ) → suc n ≡ 0 → ⊥
    some n h = omega (arith, h)

    go : (word : Word) → length word ≡ 0 → word ≡ []
    go [] h = refl
    go (x ∷ xs) h = absurd (some (length xs) h)

something : (word : Word) → eqb (length word) 0 ≡ false → 0 < length word
something [] e = absurd (true≢false e)
something (x ∷ xs) e = omega arith

-- a dash for nothing, or else letters
dash_or : {X : Type 0} (Is : Word → X → Type 0) (word : Word) (nothing x : X) (read : Result X FaultName) (d n : Bool) → bytes_eq word (codes "-") ≡ d → eqb (length word) 0 ≡ n
    → Is (codes "-") nothing → (0 < length word → read ≡ Ok x → Is word x) → cond d (Ok nothing) (cond n (Err BadOctets) read) ≡ Ok x → Is word x
dash_or Is word nothing x read true n is_d is_n dash letters e =
    let same = (bytes_eq-Decides word (codes "-")).0 is_d in
    let value : nothing ≡ x = cc in
    subst (λ w. Is w x) (sym same) (subst (Is (codes "-")) value dash)
dash_or Is word nothing x read false true is_d is_n dash letters e = absurd cc
dash_or Is word nothing x read false false is_d is_n dash letters e = letters (something word is_n) e

-- ---- rights

lettered_is : (word : Word) (rights : Rights) → 0 < length word → lettered word ≡ Ok rights → IsRights word rights
unfolding lettered
lettered_is word rights some e =
    let w = letter_at 119 word in
    let r = letter_at 114 w.1 in
    let s = letter_at 115 r.1 in
    let i = letter_at 105 s.1 in
    let found : Rights = record { write = w.0; read = r.0; sink = s.0; invalidate = i.0 } in
    let all : letters_of found ++ i.1 ≡ word =
    append_assoc (letter_if w.0 119 ++ letter_if r.0 114 ++ letter_if s.0 115) (letter_if i.0 105) i.1
    ∙ ap (λ z. (letter_if w.0 119 ++ letter_if r.0 114 ++ letter_if s.0 115) ++ z) (letter_told 105 s.1)
    ∙ append_assoc (letter_if w.0 119 ++ letter_if r.0 114) (letter_if s.0 115) s.1
    ∙ ap (λ z. (letter_if w.0 119 ++ letter_if r.0 114) ++ z) (letter_told 115 r.1)
    ∙ append_assoc (letter_if w.0 119) (letter_if r.0 114) r.1
    ∙ ap (λ z. letter_if w.0 119 ++ z) (letter_told 114 w.1)
    ∙ letter_told 119 word in
    go (eqb (length i.1) 0) refl found all e
  where
    go : (b : Bool) → eqb (length (letter_at 105 (letter_at 115 (letter_at 114 (letter_at 119 word).1).1).1).1) 0 ≡ b → (found : Rights)
        → letters_of found ++ (letter_at 105 (letter_at 115 (letter_at 114 (letter_at 119 word).1).1).1).1 ≡ word
        → cond (not b) (Err BadOctets) (Ok found) ≡ Ok rights → IsRights word rights
    go false h found all e = absurd cc
    go true h found all e =
        let left = nothing_left _ h in
        let is : letters_of found ≡ word = sym (append-nil (letters_of found)) ∙ ap (λ z. letters_of found ++ z) (sym left) ∙ all in
        let same : found ≡ rights = cc in
        subst (IsRights word) same (subst (λ z. IsRights z found) is (granted (subst (λ z. 0 < length z) (sym is) some)))

pub rights_is : (word : Word) (rights : Rights) → rights_word word ≡ Ok rights → IsRights word rights
rights_is word rights e =
    dash_or IsRights word no_rights rights (lettered word) (bytes_eq word (codes "-")) (eqb (length word) 0) refl refl none_granted (lettered_is word rights) e

letters_again : (w r s i : Bool) → 0 < length (letters_of (record { write = w; read = r; sink = s; invalidate = i })) → rights_word (letters_of (record { write = w; read = r; sink = s; invalidate = i })) ≡ Ok (record { write = w; read = r; sink = s; invalidate = i })
unfolding lettered
letters_again false false false false h = absurd (omega (arith, h))
letters_again true false false false h = refl
letters_again false true false false h = refl
letters_again true true false false h = refl
letters_again false false true false h = refl
letters_again true false true false h = refl
letters_again false true true false h = refl
letters_again true true true false h = refl
letters_again false false false true h = refl
letters_again true false false true h = refl
letters_again false true false true h = refl
letters_again true true false true h = refl
letters_again false false true true h = refl
letters_again true false true true h = refl
letters_again false true true true h = refl
letters_again true true true true h = refl

pub rights_again : (word : Word) (rights : Rights) → IsRights word rights → rights_word word ≡ Ok rights
rights_again word all none_granted = refl
rights_again word all (granted {rights} some) = letters_again rights.write rights.read rights.sink rights.invalidate some

-- ---- options

optional_is : (word : Word) (options : Options) → 0 < length word → optional word ≡ Ok options → IsOptions word options
unfolding optional
optional_is word options some e =
    let m = letter_at 109 word in
    let c = letter_at 99 m.1 in
    let n = letter_at 101 c.1 in
    let p = letter_at 112 n.1 in
    let all : (letter_if m.0 109 ++ letter_if c.0 99 ++ letter_if n.0 101 ++ letter_if p.0 112) ++ p.1 ≡ word =
    append_assoc (letter_if m.0 109 ++ letter_if c.0 99 ++ letter_if n.0 101) (letter_if p.0 112) p.1
    ∙ ap (λ z. (letter_if m.0 109 ++ letter_if c.0 99 ++ letter_if n.0 101) ++ z) (letter_told 112 n.1)
    ∙ append_assoc (letter_if m.0 109 ++ letter_if c.0 99) (letter_if n.0 101) n.1
    ∙ ap (λ z. (letter_if m.0 109 ++ letter_if c.0 99) ++ z) (letter_told 101 c.1)
    ∙ append_assoc (letter_if m.0 109) (letter_if c.0 99) c.1
    ∙ ap (λ z. letter_if m.0 109 ++ z) (letter_told 99 m.1)
    ∙ letter_told 109 word in
    go (eqb (length p.1) 0) refl m.0 c.0 n.0 p.0 all e
  where
    rest : Word
    rest = (letter_at 112 (letter_at 101 (letter_at 99 (letter_at 109 word).1).1).1).1

    spelled : (found : Options) → option_letters found ++ rest ≡ word → eqb (length rest) 0 ≡ true → found ≡ options → IsOptions word options
    spelled found all empty same =
        let left = nothing_left rest empty in
        let is : option_letters found ≡ word = sym (append-nil (option_letters found)) ∙ ap (λ z. option_letters found ++ z) (sym left) ∙ all in
        subst (IsOptions word) same (subst (λ z. IsOptions z found) is (asked (subst (λ z. 0 < length z) (sym is) some)))

    go : (b : Bool) → eqb (length rest) 0 ≡ b → (m c n p : Bool) → (letter_if m 109 ++ letter_if c 99 ++ letter_if n 101 ++ letter_if p 112) ++ rest ≡ word
        → cond (not b) (Err BadOctets) (established n p >>= λ establishment. Ok (record { markers = m; crc = c; establishment = establishment })) ≡ Ok options → IsOptions word options
    go false h m c n p all e = absurd cc
    go true h m c false false all e = spelled (record { markers = m; crc = c; establishment = Plain }) all h cc
    go true h m c true false all e = spelled (record { markers = m; crc = c; establishment = Enhanced }) all h cc
    go true h m c true true all e = spelled (record { markers = m; crc = c; establishment = PeerToPeer }) all h cc
    go true h m c false true all e = absurd cc

options_are : (word : Word) (options : Options) → options_word word ≡ Ok options → IsOptions word options
options_are word options e =
    dash_or IsOptions word no_options options (optional word) (bytes_eq word (codes "-")) (eqb (length word) 0) refl refl none_asked (optional_is word options) e

asked_again : (m c : Bool) (e : Establishment) → 0 < length (option_letters (record { markers = m; crc = c; establishment = e }))
    → options_word (option_letters (record { markers = m; crc = c; establishment = e })) ≡ Ok (record { markers = m; crc = c; establishment = e })
unfolding optional
asked_again false false Plain h = absurd (omega (arith, h))
asked_again true false Plain h = refl
asked_again false true Plain h = refl
asked_again true true Plain h = refl
asked_again false false Enhanced h = refl
asked_again true false Enhanced h = refl
asked_again false true Enhanced h = refl
asked_again true true Enhanced h = refl
asked_again false false PeerToPeer h = refl
asked_again true false PeerToPeer h = refl
asked_again false true PeerToPeer h = refl
asked_again true true PeerToPeer h = refl

options_again : (word : Word) (options : Options) → IsOptions word options → options_word word ≡ Ok options
options_again word all none_asked = refl
options_again word all (asked {options} some) = asked_again options.markers options.crc options.establishment some

-- those of a role
pub options_of_are : (role : Role) (word : Word) (options : Options) → options_for role word ≡ Ok options → IsOptionsOf role word options
unfolding options_for
options_of_are role word options e = go (options_word word) refl e
  where
    suited : (found : Options) (b : Bool) → suits role found.establishment ≡ b → cond {A = Result Options FaultName} b (Ok found) (Err BadOctets) ≡ Ok options → (found ≡ options) × (suits role options.establishment ≡ true)
    suited found true is h = let same : found ≡ options = cc in (same, ap (λ (z : Options). suits role z.establishment) (sym same) ∙ is)
    suited found false is h = absurd cc

    go : (r : Result Options FaultName) → options_word word ≡ r → (r >>= λ found. cond (suits role found.establishment) (Ok found) (Err BadOctets)) ≡ Ok options → IsOptionsOf role word options
    go (Err fault) is h = absurd cc
    go (Ok found) is h =
        let s = suited found (suits role found.establishment) refl h in
        (options_are word options (is ∙ ap Ok s.0), s.1)

pub options_of_again : (role : Role) (word : Word) (options : Options) → IsOptionsOf role word options → options_for role word ≡ Ok options
unfolding options_for
options_of_again role word options h =
    ap (λ r. r >>= λ found. cond (suits role found.establishment) (Ok found) (Err BadOctets)) (options_again word options h.0)
    ∙ ap (λ b. cond b (Ok options) (Err BadOctets)) h.1

-- ---- fixed words

one_of_told : {X : Type 0} (text : X → Word) (x : X) (xs : List X) (word : Word) (y : X) (b : Bool) → bytes_eq word (text x) ≡ b → (one_of text xs word ≡ Ok y → word ≡ text y) → cond b (Ok x) (one_of text xs word) ≡ Ok y → word ≡ text y
one_of_told text x xs word y true same others e = let is : x ≡ y = cc in (bytes_eq-Decides word (text x)).0 same ∙ ap text is
one_of_told text x xs word y false same others e = others e

-- the word of what was found by it
pub one_of_is : {X : Type 0} (text : X → Word) (xs : List X) (word : Word) (y : X) → one_of text xs word ≡ Ok y → word ≡ text y
one_of_is text [] word y e = absurd cc
one_of_is text (x ∷ xs) word y e = one_of_told text x xs word y (bytes_eq word (text x)) refl (one_of_is text xs word y) e

-- ---- the kinds of Sends

-- no STag
no_stag_is : (word : Word) (b : Bool) (stag : Option Stag) → bytes_eq word (codes "-") ≡ b → cond b (Ok None) (Err BadNumber) ≡ Ok stag → (word ≡ codes "-") × (None ≡ stag)
no_stag_is word true stag same e = ((bytes_eq-Decides word (codes "-")).0 same, cc)
no_stag_is word false stag same e = absurd cc

some_stag_is : (word : Word) (stag : Option Stag) → some_stag_word word ≡ Ok stag → (s : Stag) × IsStag word s × (Some s ≡ stag)
some_stag_is word stag e =
    let a = bind_ok (stag_word word) (λ s. Ok (Some s)) stag e in
    (a.0, stag_is word a.0 a.1, cc (a.2))

names_is : (kind : SendKind) (word : Word) (stag : Option Stag) → invalidated_word kind word ≡ Ok stag → IsKind (send_text kind) word (is_solicited kind) stag
names_is Plain word stag e =
    let n = no_stag_is word (bytes_eq word (codes "-")) stag refl e in
    subst (λ w. IsKind (codes "plain") w false stag) (sym n.0) (subst (IsKind (codes "plain") (codes "-") false) n.1 plain)
names_is Solicited word stag e =
    let n = no_stag_is word (bytes_eq word (codes "-")) stag refl e in
    subst (λ w. IsKind (codes "solicited") w true stag) (sym n.0) (subst (IsKind (codes "solicited") (codes "-") true) n.1 solicited)
names_is Invalidate word stag e =
    let s = some_stag_is word stag e in
    subst (IsKind (codes "invalidate") word false) s.2 (invalidating s.1)
names_is Both word stag e =
    let s = some_stag_is word stag e in
    subst (IsKind (codes "both") word true) s.2 (both s.1)

pub kind_is : (word stag_word : Word) (kind : SendKind) (stag : Option Stag) → kind_word word ≡ Ok kind → invalidated_word kind stag_word ≡ Ok stag → IsKind word stag_word (is_solicited kind) stag
kind_is word stag_word kind stag k s =
    subst (λ w. IsKind w stag_word (is_solicited kind) stag) (sym (one_of_is send_text send_kinds word kind k)) (names_is kind stag_word stag s)
