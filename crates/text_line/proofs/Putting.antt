-- Texts put into a line, and on a page: one after another is their join.
use Prim.Native.Nat.{ℕ, zero, suc, ◌+◌, ◌≤◌, ◌<◌}
use mathlib.Core.Path.{◌≡◌, refl, ap, sym, ◌∙◌}
use mathlib.Core.Bool.{Bool, true, false}
use mathlib.Core.List.{List, [], ◌∷◌, ◌++◌, append-nil, append_assoc}
use native.Mathlib.Omega.{arith}
use native.Mathlib.Numerals.{add-one}
use lib.ListN.{length, get_or, set, take, length-set}
use lib.Seq.{take-suc}
use borrow.Author.Tests.{lt-ltb, le-ltb}
use lib.Dec.{ltb}
use Rattle.text_line.specs.declared.text.Page.{Page}
use Rattle.text_line.specs.Line.{Lined, lined, put_byte, puts, Put}
use Rattle.text_line.specs.Page.{lined_on, with_lined, put}
use Rattle.text_line.specs.Text.{spaced_of, bytes_from, bytes_of}

-- one text and then another, in a line
pub puts_append : (a b : List ℕ) (x : Lined) → puts (a ++ b) x ≡ puts b (puts a x)
unfolding puts
puts_append [] b x = refl
puts_append (c ∷ a) b x = puts_append a b (put_byte c x)

pub lined_then : {a b l m n : List ℕ} {i j k : ℕ} → Put a i l j m → Put b j m k n → Put (a ++ b) i l k n
lined_then {a} {b} {l} {i = i} e f = record { so = f.so ∙ ap (puts b) e.so ∙ sym (puts_append a b (lined i l)) }

-- nothing
pub nothing : {l : List ℕ} {i : ℕ} → Put [] i l i l
unfolding puts
nothing = record { so = refl }

-- the same text, said in another way
pub alike : {a b l m : List ℕ} {i j : ℕ} → a ≡ b → Put a i l j m → Put b i l j m
alike {l = l} {i = i} e f = record { so = f.so ∙ ap (λ (t : List ℕ). puts t (lined i l)) e }

-- the line keeps its length
byte_long : (b : ℕ) (x : Lined) (t : Bool) → ltb x.at (length x.line) ≡ t → length (put_byte b x).line ≡ length x.line
unfolding put_byte
byte_long b x true e = simp (e, length-set)
byte_long b x false e = simp e

long_puts : (text : List ℕ) (x : Lined) → length (puts text x).line ≡ length x.line
unfolding puts
long_puts [] x = refl
long_puts (b ∷ text) x = long_puts text (put_byte b x) ∙ byte_long b x (ltb x.at (length x.line)) refl

pub put_long : {a l m : List ℕ} {i j : ℕ} → Put a i l j m → length m ≡ length l
put_long {a} {l} {i = i} e = ap (λ (x : Lined). length x.line) e.so ∙ long_puts a (lined i l)

-- one text and then another, on a page
pub put_append : (a b : List ℕ) (page : Page) → put (a ++ b) page ≡ put b (put a page)
unfolding put
put_append a b page = ap (with_lined page) (puts_append a b (lined_on page))

pub then : (a b : List ℕ) (page : Page) {p q : Page} → p ≡ put a page → q ≡ put b p → q ≡ put (a ++ b) page
then a b page e f = f ∙ ap (put b) e ∙ sym (put_append a b page)

pub put_joined : (a b : List ℕ) (page : Page) → put b (put a page) ≡ put (a ++ b) page
put_joined a b page = sym (put_append a b page)

pub put_nothing : (page : Page) → put [] page ≡ page
unfolding put puts
put_nothing page = refl

-- a byte written into a line
pub byte_put : (b : ℕ) (line : List ℕ) (at : ℕ) → at < length line → lined (at + 1) (set line at b) ≡ puts (b ∷ []) (lined at line)
unfolding puts put_byte
byte_put b line at h = simp (lt-ltb at (length line) h)

-- no room for a byte
pub byte_past : (b : ℕ) (line : List ℕ) (at : ℕ) → length line ≤ at → lined at line ≡ puts (b ∷ []) (lined at line)
unfolding puts put_byte
byte_past b line at h = simp (le-ltb at (length line) h)

-- one byte more of a text
pub put_step : (text : List ℕ) (x : Lined) (i : ℕ) → i < length text → puts (get_or text i 0 ∷ []) (puts (take i text) x) ≡ puts (take (i + 1) text) x
put_step text x i h =
    let e : take (suc i) text ≡ take i text ++ (get_or text i 0 ∷ []) = take-suc text i 0 h in
    rw (add-one, e) (sym (puts_append (take i text) (get_or text i 0 ∷ []) x))

-- one byte more of bytes in hex
later_bytes : (bytes : List ℕ) (b : ℕ) → bytes_from true (bytes ++ (b ∷ [])) ≡ bytes_from true bytes ++ spaced_of true b
unfolding bytes_from
later_bytes [] b = append-nil (spaced_of true b)
later_bytes (c ∷ bytes) b = ap (λ (l : List ℕ). spaced_of true c ++ l) (later_bytes bytes b) ∙ sym (append_assoc (spaced_of true c) (bytes_from true bytes) (spaced_of true b))

next_bytes : (bytes : List ℕ) (i : ℕ) → i < length bytes → bytes_of (take (suc i) bytes) ≡ bytes_of (take i bytes) ++ spaced_of (ltb 0 i) (get_or bytes i 0)
unfolding bytes_from
next_bytes [] i h = absurd (omega arith)
next_bytes (b ∷ bytes) zero h = append-nil (spaced_of false b)
next_bytes (b ∷ bytes) (suc i) h =
    let g : i < length bytes = omega arith in
    let e : take (suc i) bytes ≡ take i bytes ++ (get_or bytes i 0 ∷ []) = take-suc bytes i 0 g in
    rw (lt-ltb 0 (suc i) (omega arith), e, later_bytes (take i bytes) (get_or bytes i 0))
    (sym (append_assoc (spaced_of false b) (bytes_from true (take i bytes)) (spaced_of true (get_or bytes i 0))))

pub bytes_step : (bytes : List ℕ) (page : Page) (i : ℕ) → i < length bytes → put (spaced_of (ltb 0 i) (get_or bytes i 0)) (put (bytes_of (take i bytes)) page) ≡ put (bytes_of (take (i + 1) bytes)) page
bytes_step bytes page i h =
    rw (add-one, next_bytes bytes i h, put_append (bytes_of (take i bytes)) (spaced_of (ltb 0 i) (get_or bytes i 0)) page) refl

pub ruleset putting = (put_append, put_joined, put_nothing)
