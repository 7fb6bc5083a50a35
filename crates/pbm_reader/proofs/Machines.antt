-- A machine that reads bytes one by one: the texts that it reads whole, and where it stops in others.
use Rattle.std.proofs.Common.{◌≡◌, ℕ, ◌<◌, Bool, true, false, List, [], ◌∷◌, ◌++◌, length, Option, Some, None, option_and_then, refl, sym, ap, subst, ◌∙◌, arith}
use Rattle.pbm_reader.specs.Fault.{IsFrontOf, StopsAt}

-- the state behind these bytes, or none where the machine stops in them
abbrev pub run : {State : Type 0} → (State → ℕ → Option State) → State → List ℕ → Option State
run step state [] = Some state
run step state (byte ∷ bytes) = option_and_then (λ next. run step next bytes) (step state byte)

some_is : {A : Type 0} (a b : A) → (let o : Option A = Some a in o) ≡ Some b → a ≡ b
some_is a b e = cc

none_some : {A : Type 0} (a : A) → (let o : Option A = None in o) ≡ Some a → ⊥
none_some a e = cc

true_false : (b : Bool) → b ≡ true → b ≡ false → ⊥
true_false b p q = cc

-- bytes behind those that lead to a state are read from there
pub run_append : {State : Type 0} (step : State → ℕ → Option State) (s t : State) (a b : List ℕ) → run step s a ≡ Some t → run step s (a ++ b) ≡ run step t b
run_append step s t [] b e = ap (λ (x : _). run step x b) (some_is s t e)
run_append {State} step s t (byte ∷ a) b e = cases (λ n. run_append step n t a b) (step s byte) e
  where
    cases : ((n : State) → run step n a ≡ Some t → run step n (a ++ b) ≡ run step t b) → (o : Option State) → option_and_then (λ n. run step n a) o ≡ Some t
        → option_and_then (λ n. run step n (a ++ b)) o ≡ run step t b
    cases again None r = absurd (none_some t r)
    cases again (Some n) r = again n r

pub record Split {State : Type 0} (step : State → ℕ → Option State) (s u : State) (a b : List ℕ) : Type 0 where
  pub middle : State
  pub first : run step s a ≡ Some middle
  pub second : run step middle b ≡ Some u

pub run_split : {State : Type 0} (step : State → ℕ → Option State) (s u : State) (a b : List ℕ) → run step s (a ++ b) ≡ Some u → Split step s u a b
run_split step s u [] b e = record { middle = s; first = refl; second = e }
run_split {State} step s u (byte ∷ a) b e = cases (λ n. run_split step n u a b) (step s byte) refl e
  where
    cases : ((n : State) → run step n (a ++ b) ≡ Some u → Split step n u a b) → (o : Option State) → step s byte ≡ o → option_and_then (λ n. run step n (a ++ b)) o ≡ Some u
        → Split step s u (byte ∷ a) b
    cases again None t r = absurd (none_some u r)
    cases again (Some n) t r =
        let i = again n r in
        record { middle = i.middle; first = ap (λ (o : Option State). option_and_then (λ n. run step n a) o) t ∙ i.first; second = i.second }

-- what holds where a last state is reached, and is carried back over each step, holds of all bytes that lead there
pub carried_back : {State : Type 0} (step : State → ℕ → Option State) (t : State) (Rest : State → List ℕ → Type 0) → ((s : State) → s ≡ t → Rest s [])
    → ((s n : State) (byte : ℕ) (bytes : List ℕ) → step s byte ≡ Some n → Rest n bytes → Rest s (byte ∷ bytes)) → (bytes : List ℕ) (s : State) → run step s bytes ≡ Some t → Rest s bytes
carried_back step t Rest here back [] s e = here s (some_is s t e)
carried_back {State} step t Rest here back (byte ∷ bytes) s e = cases (λ n r. carried_back step t Rest here back bytes n r) (step s byte) refl e
  where
    cases : ((n : State) → run step n bytes ≡ Some t → Rest n bytes) → (o : Option State) → step s byte ≡ o → option_and_then (λ n. run step n bytes) o ≡ Some t → Rest s (byte ∷ bytes)
    cases again None p q = absurd (none_some t q)
    cases again (Some n) p q = back s n byte bytes p (again n q)

-- bytes behind a state that complete a text
pub record Completes {State : Type 0} (step : State → ℕ → Option State) (is_whole : State → Bool) (s : State) : Type 0 where
  pub bytes : List ℕ
  pub some : 0 < length bytes
  pub last : State
  pub reads : run step s bytes ≡ Some last
  pub whole : is_whole last ≡ true

pub record Machine (State : Type 0) : Type 0 where
  pub step : State → ℕ → Option State
  pub start : State
  pub is_whole : State → Bool
  pub ends : (s : State) (byte : ℕ) → is_whole s ≡ true → step s byte ≡ None
  pub completes : (s : State) → is_whole s ≡ false → Completes step is_whole s

-- the bytes lead to a state in which a text is whole
abbrev pub IsRead : {State : Type 0} → Machine State → List ℕ → Type 0
IsRead {State} m bytes = (t : State) × (run m.step m.start bytes ≡ Some t) × (m.is_whole t ≡ true)

-- the bytes lead to this state, in which no text is whole
pub record IsOpen {State : Type 0} (m : Machine State) (bytes : List ℕ) (t : State) : Type 0 where
  pub reads : run m.step m.start bytes ≡ Some t
  pub open_yet : m.is_whole t ≡ false

pub front_of : {State : Type 0} (m : Machine State) (front : List ℕ) (t : State) → IsOpen m front t → IsFrontOf (IsRead m) front
front_of m front t o =
    let c = m.completes t o.open_yet in
    record { rest = c.bytes; some = c.some; is_text = (c.last, run_append m.step m.start t front c.bytes o.reads ∙ c.reads, c.whole) }

pub stops_of : {State : Type 0} (m : Machine State) (front : List ℕ) (byte : ℕ) (more : List ℕ) (t : State) → IsOpen m front t → m.step t byte ≡ None
    → StopsAt (IsRead m) (front ++ byte ∷ more) (length front)
stops_of {State} m front byte more t o e = record {
  front = front;
  byte = byte;
  more = more;
  whole = refl;
  place = refl;
  begins = front_of m front t o;
  wrong = λ rest r.
      let none : run m.step t (byte ∷ rest) ≡ None = ap (λ (k : Option State). option_and_then (λ n. run m.step n rest) k) e in
      none_some r.0 (sym (run_append m.step m.start t front (byte ∷ rest) o.reads ∙ none) ∙ r.1);
}

stuck : {State : Type 0} (m : Machine State) (t u : State) (rest : List ℕ) → 0 < length rest → run m.step t rest ≡ Some u → m.is_whole t ≡ true → ⊥
stuck m t u [] some e w = absurd (omega (arith, some))
stuck {State} m t u (byte ∷ rest) some e w =
    none_some u (sym (ap (λ (k : Option State). option_and_then (λ n. run m.step n rest) k) (m.ends t byte w)) ∙ e)

pub open_state : {State : Type 0} (m : Machine State) (t u : State) (rest : List ℕ) → 0 < length rest → run m.step t rest ≡ Some u → m.is_whole t ≡ false
open_state m t u rest some e = cases (m.is_whole t) refl
  where
    cases : (b : Bool) → m.is_whole t ≡ b → b ≡ false
    cases false p = refl
    cases true p = absurd (stuck m t u rest some e p)

-- a front of a text leads to an open state
pub front_state : {State : Type 0} (m : Machine State) (bytes : List ℕ) → IsFrontOf (IsRead m) bytes → (t : State) × IsOpen m bytes t
front_state m bytes f =
    let s = run_split m.step m.start f.is_text.0 bytes f.rest f.is_text.1 in
    (s.middle, record { reads = s.first; open_yet = open_state m s.middle f.is_text.0 f.rest f.some s.second })

-- where the bytes stop to begin a text the machine stops
pub stops_state : {State : Type 0} (m : Machine State) (bytes : List ℕ) (at : ℕ) (s : StopsAt (IsRead m) bytes at) → (t : State) × IsOpen m s.front t × (m.step t s.byte ≡ None)
stops_state {State} m bytes at s =
    let f = front_state m s.front s.begins in
    (f.0, f.1, cases f.0 f.1.reads (m.step f.0 s.byte) refl)
  where
    one_more : (t n : State) (rest : List ℕ) → run m.step m.start s.front ≡ Some t → m.step t s.byte ≡ Some n → run m.step m.start (s.front ++ s.byte ∷ rest) ≡ run m.step n rest
    one_more t n rest r e = run_append m.step m.start t s.front (s.byte ∷ rest) r ∙ ap (λ (k : Option State). option_and_then (λ n. run m.step n rest) k) e

    impossible : (t n : State) → run m.step m.start s.front ≡ Some t → m.step t s.byte ≡ Some n → (b : Bool) → m.is_whole n ≡ b → ⊥
    impossible t n r e true w = s.wrong [] (n, one_more t n [] r e, w)
    impossible t n r e false w = let c = m.completes n w in s.wrong c.bytes (c.last, one_more t n c.bytes r e ∙ c.reads, c.whole)

    cases : (t : State) → run m.step m.start s.front ≡ Some t → (o : Option State) → m.step t s.byte ≡ o → o ≡ None
    cases t r None e = refl
    cases t r (Some n) e = absurd (impossible t n r e (m.is_whole n) refl)

-- ---- how far the machine reads

-- the machine has nothing more to read, or reads no more
abbrev pub IsStuck : {State : Type 0} → (State → ℕ → Option State) → State → List ℕ → Type 0
IsStuck step s [] = Unit {0}
IsStuck step s (byte ∷ bytes) = step s byte ≡ None

pub record Reached {State : Type 0} (step : State → ℕ → Option State) (s : State) (bytes : List ℕ) : Type 0 where
  pub front : List ℕ
  pub rest : List ℕ
  pub last : State
  pub whole : bytes ≡ front ++ rest
  pub reads : run step s front ≡ Some last
  pub stays : IsStuck step last rest

pub reached : {State : Type 0} (step : State → ℕ → Option State) (s : State) (bytes : List ℕ) → Reached step s bytes
reached step s [] = record { front = []; rest = []; last = s; whole = refl; reads = refl; stays = tt }
reached {State} step s (byte ∷ bytes) = cases (λ n. reached step n bytes) (step s byte) refl
  where
    cases : ((n : State) → Reached step n bytes) → (o : Option State) → step s byte ≡ o → Reached step s (byte ∷ bytes)
    cases again None e = record { front = []; rest = byte ∷ bytes; last = s; whole = refl; reads = refl; stays = e }
    cases again (Some n) e =
        let r = again n in
        record {
          front = byte ∷ r.front;
          rest = r.rest;
          last = r.last;
          whole = ap (λ (l : List ℕ). byte ∷ l) r.whole;
          reads = ap (λ (k : Option State). option_and_then (λ n. run step n r.front) k) e ∙ r.reads;
          stays = r.stays;
        }

pub record Same {State : Type 0} (a b r q : List ℕ) (t u : State) : Type 0 where
  pub front : a ≡ b
  pub rest : r ≡ q
  pub last : t ≡ u

head_is : (x y : ℕ) (xs ys : List ℕ) → x ∷ xs ≡ y ∷ ys → x ≡ y
head_is x y xs ys e = cc

tail_is : (x y : ℕ) (xs ys : List ℕ) → x ∷ xs ≡ y ∷ ys → xs ≡ ys
tail_is x y xs ys e = cc

-- the machine is stuck at a byte that it reads
not_stuck : {State : Type 0} (step : State → ℕ → Option State) (s t u : State) (byte : ℕ) (bytes r q : List ℕ) → s ≡ t → r ≡ byte ∷ q → IsStuck step t r → run step s (byte ∷ bytes) ≡ Some u → ⊥
not_stuck {State} step s t u byte bytes r q e split stays reads =
    let P : State → Type 0 = λ x. IsStuck step x (byte ∷ q) in
    let Q : List ℕ → Type 0 = λ l. IsStuck step t l in
    let at : step s byte ≡ None = subst P (sym e) (subst Q split stays) in
    none_some u (sym (ap (λ (k : Option State). option_and_then (λ n. run step n bytes) k) at) ∙ reads)

-- there is one place where it stops
pub reached_once : {State : Type 0} (step : State → ℕ → Option State) (s t u : State) (a b r q : List ℕ) → a ++ r ≡ b ++ q → run step s a ≡ Some t → run step s b ≡ Some u
    → IsStuck step t r → IsStuck step u q → Same a b r q t u
reached_once step s t u [] [] r q e x y stays also = record { front = refl; rest = e; last = sym (some_is s t x) ∙ some_is s u y }
reached_once step s t u [] (byte ∷ b) r q e x y stays also = absurd (not_stuck step s t u byte b r (b ++ q) (some_is s t x) e stays y)
reached_once step s t u (byte ∷ a) [] r q e x y stays also = absurd (not_stuck step s u t byte a q (a ++ r) (some_is s u y) (sym e) also x)
reached_once {State} step s t u (byte ∷ a) (other ∷ b) r q e x y stays also =
    cases (λ n p p'. reached_once step n t u a b r q (tail_is byte other (a ++ r) (b ++ q) e) p p' stays also) (step s byte) x (subst P (sym (head_is byte other (a ++ r) (b ++ q) e)) y)
  where
    P : ℕ → Type 0
    P k = option_and_then (λ n. run step n b) (step s k) ≡ Some u

    cases : ((n : State) → run step n a ≡ Some t → run step n b ≡ Some u → Same a b r q t u) → (o : Option State) → option_and_then (λ n. run step n a) o ≡ Some t
        → option_and_then (λ n. run step n b) o ≡ Some u → Same (byte ∷ a) (other ∷ b) r q t u
    cases again None p p' = absurd (none_some t p)
    cases again (Some n) p p' =
        let i = again n p p' in
        record { front = both (head_is byte other (a ++ r) (b ++ q) e) i.front; rest = i.rest; last = i.last }
      where
        both : byte ≡ other → a ≡ b → byte ∷ a ≡ other ∷ b
        both h t = cc

-- ---- texts of one kind are texts of another

pub front_map : (A B : List ℕ → Type 0) (bytes : List ℕ) → ((l : List ℕ) → A l → B l) → IsFrontOf A bytes → IsFrontOf B bytes
front_map A B bytes f x = record { rest = x.rest; some = x.some; is_text = f (bytes ++ x.rest) x.is_text }

pub stops_map : (A B : List ℕ → Type 0) (bytes : List ℕ) (at : ℕ) → ((l : List ℕ) → A l → B l) → ((l : List ℕ) → B l → A l) → StopsAt A bytes at → StopsAt B bytes at
stops_map A B bytes at f g x = record {
  front = x.front;
  byte = x.byte;
  more = x.more;
  whole = x.whole;
  place = x.place;
  begins = front_map A B x.front f x.begins;
  wrong = λ rest t. x.wrong rest (g (x.front ++ x.byte ∷ rest) t);
}
