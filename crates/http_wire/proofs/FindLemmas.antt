-- The search for a head, one look after another.
use Rattle.std.proofs.Common.{◌≡◌, ◌⊎◌, Bool, ℕ, zero, suc, ◌+◌, ◌-◌, ◌<◌, ◌≤◌, nat_le, if◌then◌else◌, true, false, List, [], ◌∷◌, ◌++◌, length, take, drop, Option, None, Some, option_map, refl, sym, ap, ◌∙◌, arith, inl, inr, one-add, le-leb, length-append, append-nil, append_assoc, take-append-drop, length-drop, length-take-le, add-zero, zero-add, take_all}
use Rattle.std.proofs.lemmas.Bool.{cases_Bool, cases_lt, lt-leb}
use Rattle.std.proofs.lemmas.List.{take-append-le, drop-append-le}
use Rattle.http_wire.specs.inside.Ahead.{Ahead}
use Rattle.http_wire.specs.inside.HeadSearch.{FindsSoFar, IsUnfinished, NeedsMore, Searched, Searching, head_from, scan_start, search_start}
use Rattle.http_wire.specs.HeadText.{HeadText, whole, too_long, cut, nothing, head_limit, is_line_end, head_len_after, head_len, text_at, blank_len, head_text}
use Rattle.http_wire.specs.inside.Scan.{scanned}
use Rattle.http_wire.specs.declared.read.head_text.Scan.{Scan}
use Rattle.http_wire.specs.declared.read.head_search.Search.{Search}
use Rattle.http_wire.proofs.HeadTextLemmas.{head_len_after-append, head_len_after-within, head_len_after-later, text_at-long}
use Rattle.http_wire.proofs.ScanLemmas.{scanned-append}

longer : (start read got rest : List ℕ) → (start ++ (read ++ got)) ++ rest ≡ (start ++ read) ++ (got ++ rest)
longer start read got rest = ap (λ l. l ++ rest) (sym (append_assoc start read got)) ∙ append_assoc (start ++ read) got rest

FindsSoFar-start : (held : List ℕ) → FindsSoFar (held ++ []) held 0
FindsSoFar-start held rest =
    let text = drop (blank_len (held ++ rest)) (held ++ rest) in
    ap (λ l. head_text (l ++ rest)) (append-nil held) ∙ ap (λ n. text_at n text (head_len text)) (sym (zero-add (blank_len (held ++ rest))))

-- the line ends at the start of what is left are skipped
head_from-passed : (skipped : ℕ) (held rest : List ℕ) → head_from skipped (held ++ rest) ≡ head_from (skipped + blank_len held) (drop (blank_len held) held ++ rest)
head_from-passed skipped [] rest = ap (λ n. head_from n rest) (sym (add-zero skipped))
head_from-passed skipped (b ∷ held) rest =
    elim (cases_Bool (is_line_end b)) [
      | inl t ↦ rw t (one (blank_len (held ++ rest)) ∙ head_from-passed (skipped + 1) held rest ∙ later (blank_len held))
      | inr f ↦ rw f (rw f (ap (λ n. text_at (n + 0) (b ∷ (held ++ rest)) (head_len (b ∷ (held ++ rest)))) (sym (add-zero skipped))))
    ]
  where
    one : (n : ℕ) → text_at (skipped + (1 + n)) (drop (1 + n) (b ∷ (held ++ rest))) (head_len (drop (1 + n) (b ∷ (held ++ rest)))) ≡ text_at ((skipped + 1) + n) (drop n (held ++ rest)) (head_len (drop n (held ++ rest)))
    one n =
        let count : skipped + (1 + n) ≡ (skipped + 1) + n = omega arith in
        let left : drop (1 + n) (b ∷ (held ++ rest)) ≡ drop n (held ++ rest) = ap (λ k. drop k (b ∷ (held ++ rest))) (one-add n) in
        rw (count, left) refl

    later : (n : ℕ) → head_from ((skipped + 1) + n) (drop n held ++ rest) ≡ head_from (skipped + (1 + n)) (drop (1 + n) (b ∷ held) ++ rest)
    later n =
        let count : (skipped + 1) + n ≡ skipped + (1 + n) = omega arith in
        let left : drop n held ≡ drop (1 + n) (b ∷ held) = ap (λ k. drop k (b ∷ held)) (sym (one-add n)) in
        rw (count, left) refl

FindsSoFar-passed : (bytes held : List ℕ) (skipped : ℕ) → FindsSoFar bytes held skipped → FindsSoFar bytes (drop (blank_len held) held) (skipped + blank_len held)
FindsSoFar-passed bytes held skipped h rest = h rest ∙ head_from-passed skipped held rest

-- then no line end is left at the start
blank_len-passed : (held : List ℕ) → blank_len (drop (blank_len held) held) ≡ 0
blank_len-passed [] = refl
blank_len-passed (b ∷ held) =
    elim (cases_Bool (is_line_end b)) [
      | inl t ↦ rw t (ap (λ k. blank_len (drop k (b ∷ held))) (one-add (blank_len held)) ∙ blank_len-passed held)
      | inr f ↦ rw f (rw f refl)
    ]

-- and what follows changes that only where nothing is left
blank_len-begun : (b : ℕ) (held rest : List ℕ) → blank_len (b ∷ held) ≡ 0 → blank_len (b ∷ (held ++ rest)) ≡ 0
blank_len-begun b held rest e =
    elim (cases_Bool (is_line_end b)) [
      | inl t ↦ absurd (omega (arith, (rw t at e)))
      | inr f ↦ rw f refl
    ]

-- where something is left, it begins the head
head_from-begun : (skipped b : ℕ) (held rest : List ℕ) → blank_len (b ∷ held) ≡ 0
    → head_from skipped (b ∷ (held ++ rest)) ≡ text_at skipped (b ∷ (held ++ rest)) (head_len (b ∷ (held ++ rest)))
head_from-begun skipped b held rest e =
    let text = b ∷ (held ++ rest) in
    ap (λ n. text_at (skipped + n) (drop n text) (head_len (drop n text))) (blank_len-begun b held rest e) ∙ ap (λ n. text_at n text (head_len text)) (add-zero skipped)

-- some more bytes came
FindsSoFar-more : (start read held got all : List ℕ) (skipped : ℕ) → FindsSoFar (start ++ read) held skipped → all ≡ held ++ got → FindsSoFar (start ++ (read ++ got)) all skipped
FindsSoFar-more start read held got all skipped h e rest =
    rw e (ap head_text (longer start read got rest) ∙ h (got ++ rest) ∙ ap (head_from skipped) (sym (append_assoc held got rest)))

-- the search of the rest
whole_len : (s : Scan) (seen : ℕ) (held : List ℕ) → Searched s seen held
    → head_len held ≡ option_map (λ n. seen + n) (head_len_after s.before s.last (drop seen held))
whole_len s seen held h =
    let count : length (take seen held) ≡ seen = omega (arith, length-take-le seen held h.within) in
    let later = head_len_after-later scan_start (take seen held) (drop seen held) h.none in
    let same : scanned scan_start (take seen held) ≡ s = sym h.scan in
    ap head_len (sym (take-append-drop seen held)) ∙ rw (count, same) at later

pub head_len-found : (s : Scan) (seen more : ℕ) (held : List ℕ) → Searched s seen held → Some more ≡ head_len_after s.before s.last (drop seen held)
    → head_len held ≡ Some (seen + more)
head_len-found s seen more held h found = whole_len s seen held h ∙ ap (option_map (λ n. seen + n)) (sym found)

-- no head ends in what is held, which is searched now
pub Searched-all : (s next : Scan) (seen : ℕ) (held : List ℕ) → Searched s seen held → None ≡ head_len_after s.before s.last (drop seen held)
    → next ≡ scanned s (drop seen held) → Searched next (length held) held
Searched-all s next seen held h none is = record {
  within = omega arith;
  none = rw (take_all (length held) held (omega arith)) (whole_len s seen held h ∙ ap (option_map (λ n. seen + n)) (sym none));
  scan = rw (take_all (length held) held (omega arith)) (is ∙ ap (λ (t : Scan). scanned t (drop seen held)) h.scan
      ∙ sym (scanned-append scan_start (take seen held) (drop seen held)) ∙ ap (scanned scan_start) (take-append-drop seen held));
}

-- no head ends in bytes that were all searched
pub all_none : (held : List ℕ) (s : Scan) → Searched s (length held) held → head_len held ≡ None
all_none held s h = ap head_len (sym (take_all (length held) held (omega arith))) ∙ h.none

-- a search that begins
pub Searching-start : (held : List ℕ) → Searching (held ++ []) held search_start
Searching-start held = record {
  finds = FindsSoFar-start held;
  searched = record { within = omega arith; none = refl; scan = refl };
  begun = λ some. absurd (omega (arith, some));
}

-- the line ends before the head were skipped
Searching-passed : (bytes before held : List ℕ) (s : Search) → Searching bytes before s → held ≡ drop (blank_len before) before
    → Searching bytes held (record s { skipped = s.skipped + blank_len before })
Searching-passed bytes before held s h e = record {
  finds = rw e (FindsSoFar-passed bytes before s.skipped h.finds);
  searched = rw e (searched s.seen refl);
  begun = λ _. rw e (blank_len-passed before);
}
  where
    searched : (seen : ℕ) → s.seen ≡ seen → Searched s.scan seen (drop (blank_len before) before)
    searched zero is = record { within = omega arith; none = refl; scan = h.searched.scan ∙ ap (λ n. scanned scan_start (take n before)) is }
    searched (suc n) is =
        let none : blank_len before ≡ 0 = h.begun (omega (arith, is)) in
        rw none (rw is at h.searched)

-- the same, by what a look found of them
pub Searching-skipped : (bytes before shown held : List ℕ) (s : Search) (blank : ℕ) → Searching bytes before s → shown ≡ before
    → ((0 < s.seen → blank_len shown ≡ 0) → blank ≡ blank_len shown) → held ≡ drop blank before
    → Searching bytes held (record s { skipped = s.skipped + blank }) × (blank_len held ≡ 0)
Searching-skipped bytes before shown held s blank h same count left =
    let all : blank ≡ blank_len before = count (rw same h.begun) ∙ ap blank_len same in
    let is : held ≡ drop (blank_len before) before = left ∙ ap (λ n. drop n before) all in
    (rw all (Searching-passed bytes before held s h is), rw is (blank_len-passed before))

-- more bytes came
pub Searching-more : (start read held got all : List ℕ) (s : Search) → Searching (start ++ read) held s → all ≡ held ++ got → Searching (start ++ (read ++ got)) all s
Searching-more start read held got all s h e =
    let same : take s.seen all ≡ take s.seen held = ap (take s.seen) e ∙ take-append-le s.seen held got h.searched.within in
    record {
      finds = FindsSoFar-more start read held got all s.skipped h.finds e;
      searched = record {
        within = rw e (omega (arith, length-append held got, h.searched.within));
        none = rw same h.searched.none;
        scan = rw same h.searched.scan;
      };
      begun = λ some. rw e (begun held (omega (arith, some, h.searched.within)) (h.begun some));
    }
  where
    begun : (xs : List ℕ) → 0 < length xs → blank_len xs ≡ 0 → blank_len (xs ++ got) ≡ 0
    begun [] some e2 = absurd (omega (arith, some))
    begun (b ∷ xs) some e2 = blank_len-begun b xs got e2

-- a head that is no longer than a head may be
pub IsHeadFound-whole : (bytes held : List ℕ) (skipped n : ℕ) → FindsSoFar bytes held skipped → blank_len held ≡ 0 → head_len held ≡ Some n → skipped + n ≤ head_limit
    → (rest : List ℕ) → head_text (bytes ++ rest) ≡ whole (take n held) (drop n held ++ rest)
IsHeadFound-whole bytes [] skipped n h begun is short rest = absurd cc
IsHeadFound-whole bytes (b ∷ held) skipped n h begun is short rest =
    let len = head_len_after-append 0 0 (b ∷ held) rest n is in
    let within = head_len_after-within 0 0 (b ∷ held) n is in
    h rest ∙ head_from-begun skipped b held rest begun ∙ ap (text_at skipped (b ∷ (held ++ rest))) len
    ∙ rw (le-leb (skipped + n) head_limit short, take-append-le n (b ∷ held) rest within, drop-append-le n (b ∷ held) rest within) refl

-- one that is longer
pub IsHeadFound-longer : (bytes held : List ℕ) (skipped n : ℕ) → FindsSoFar bytes held skipped → blank_len held ≡ 0 → head_len held ≡ Some n → head_limit < skipped + n
    → (rest : List ℕ) → head_text (bytes ++ rest) ≡ too_long
IsHeadFound-longer bytes [] skipped n h begun is long rest = absurd cc
IsHeadFound-longer bytes (b ∷ held) skipped n h begun is long rest =
    let len = head_len_after-append 0 0 (b ∷ held) rest n is in
    h rest ∙ head_from-begun skipped b held rest begun ∙ ap (text_at skipped (b ∷ (held ++ rest))) len ∙ rw (lt-leb (skipped + n) head_limit long) refl

-- more bytes than a head may have, and no end
pub IsHeadFound-endless : (bytes held : List ℕ) (skipped : ℕ) → FindsSoFar bytes held skipped → blank_len held ≡ 0 → head_len held ≡ None → head_limit ≤ skipped + length held
    → (rest : List ℕ) → head_text (bytes ++ rest) ≡ too_long
IsHeadFound-endless bytes [] skipped h begun none long rest =
    h rest ∙ text_at-long (skipped + blank_len rest) [] (drop (blank_len rest) rest) refl (omega (arith, long))
IsHeadFound-endless bytes (b ∷ held) skipped h begun none long rest = h rest ∙ head_from-begun skipped b held rest begun ∙ text_at-long skipped (b ∷ held) rest none long

-- the bytes alone, with nothing after them
alone : (bytes held : List ℕ) (skipped : ℕ) → FindsSoFar bytes held skipped → head_text bytes ≡ head_from skipped held
alone bytes held skipped h = ap head_text (sym (append-nil bytes)) ∙ h [] ∙ ap (head_from skipped) (append-nil held)

-- the end of the input inside a head
pub IsHeadFound-cut : (bytes held : List ℕ) (skipped : ℕ) → FindsSoFar bytes held skipped → blank_len held ≡ 0 → head_len held ≡ None → skipped + length held < head_limit → 0 < length held
    → head_text bytes ≡ cut
IsHeadFound-cut bytes [] skipped h begun none short some = absurd (omega (arith, some))
IsHeadFound-cut bytes (b ∷ held) skipped h begun none short some =
    let text = ap (λ l. b ∷ l) (append-nil held) in
    ap head_text (sym (append-nil bytes)) ∙ h [] ∙ head_from-begun skipped b held [] begun ∙ ap (λ l. text_at skipped l (head_len l)) text
    ∙ ap (text_at skipped (b ∷ held)) none ∙ rw (lt-leb head_limit (skipped + length (b ∷ held)) short) refl

-- the end of the input before one
pub IsHeadFound-nothing : (bytes held : List ℕ) (skipped : ℕ) → FindsSoFar bytes held skipped → skipped < head_limit → length held ≡ 0 → head_text bytes ≡ nothing
IsHeadFound-nothing bytes [] skipped h few none = alone bytes [] skipped h ∙ rw (lt-leb head_limit (skipped + 0) (omega (arith, few))) refl
IsHeadFound-nothing bytes (b ∷ held) skipped h few none = absurd (omega (arith, none))

-- more is needed, so the bytes have no whole head yet
pub Searching-unfinished : (bytes : List ℕ) (a : Ahead) (s : Search) → Searching bytes a.held s → NeedsMore a s → IsUnfinished bytes
Searching-unfinished bytes a s h needs =
    by s.seen refl
  where
    none : head_len a.held ≡ None
    none = all_none a.held s.scan (rw needs.seen at h.searched)

    by : (n : ℕ) → s.seen ≡ n → IsUnfinished bytes
    by zero is = inr (IsHeadFound-nothing bytes a.held s.skipped h.finds (omega (arith, needs.few)) (sym needs.seen ∙ is))
    by (suc n) is = inl (IsHeadFound-cut bytes a.held s.skipped h.finds (h.begun (omega (arith, is))) none (omega (arith, needs.seen, needs.few)) (omega (arith, needs.seen, is)))

-- the bytes that were not seen yet
pub unseen : (seen : ℕ) (bytes held : List ℕ) → bytes ≡ held → take (length bytes - seen) (drop seen bytes) ≡ drop seen held
unseen seen bytes held e = rw e (take_all (length held - seen) (drop seen held) (omega (arith, length-drop seen held)))

-- a head's text, where more bytes follow
abbrev followed_text : List ℕ → HeadText → HeadText
followed_text more (whole text rest) = whole text (rest ++ more)
followed_text more too_long = too_long
followed_text more cut = cut
followed_text more nothing = nothing

-- a whole head was found where the search for its end stops, and is no longer than a head may be
pub whole_found : (input text rest : List ℕ) → head_text input ≡ whole text rest
    → (n : ℕ) × (head_len (drop (blank_len input) input) ≡ Some n) × (blank_len input + n ≤ head_limit)
    × (whole (take n (drop (blank_len input) input)) (drop n (drop (blank_len input) input)) ≡ whole text rest)
whole_found input text rest is =
    by (head_len held) refl is
  where
    held : List ℕ
    held = drop (blank_len input) input

    long_or : (c : Bool) (other : HeadText) → (other ≡ whole text rest → ⊥) → (if c then too_long else other) ≡ whole text rest → ⊥
    long_or true other never e = absurd cc
    long_or false other never e = never e

    is_nothing : nothing ≡ whole text rest → ⊥
    is_nothing e = absurd cc

    is_cut : cut ≡ whole text rest → ⊥
    is_cut e = absurd cc

    is_long : too_long ≡ whole text rest → ⊥
    is_long e = absurd cc

    endless : (bytes : List ℕ) → text_at (blank_len input) bytes None ≡ whole text rest → ⊥
    endless [] e = long_or (nat_le head_limit (blank_len input)) nothing is_nothing e
    endless (b ∷ bytes) e = long_or (nat_le head_limit (blank_len input + length (b ∷ bytes))) cut is_cut e

    by : (r : Option ℕ) → head_len held ≡ r → text_at (blank_len input) held r ≡ whole text rest
        → (n : ℕ) × (head_len held ≡ Some n) × (blank_len input + n ≤ head_limit) × (whole (take n held) (drop n held) ≡ whole text rest)
    by None len e = absurd (endless held e)
    by (Some n) len e =
        elim (cases_lt head_limit (blank_len input + n)) [
          | inl long ↦ absurd (is_long (rw (lt-leb (blank_len input + n) head_limit long) at e))
          | inr short ↦ (n, len, short, rw (le-leb (blank_len input + n) head_limit short) at e)
        ]

-- a whole head stays when more bytes follow
pub head_text-append : (input more text rest : List ℕ) → head_text input ≡ whole text rest → head_text (input ++ more) ≡ whole text (rest ++ more)
head_text-append input more text rest is =
    let w = whole_found input text rest is in
    kept w.0 w.1 w.2 w.3
  where
    held : List ℕ
    held = drop (blank_len input) input

    kept : (n : ℕ) → head_len held ≡ Some n → blank_len input + n ≤ head_limit → whole (take n held) (drop n held) ≡ whole text rest → head_text (input ++ more) ≡ whole text (rest ++ more)
    kept n len short same =
        let found = FindsSoFar-passed (input ++ []) input 0 (FindsSoFar-start input) in
        let stays = IsHeadFound-whole (input ++ []) held (0 + blank_len input) n found (blank_len-passed input) len (omega (arith, short)) more in
        ap (λ l. head_text (l ++ more)) (sym (append-nil input)) ∙ stays ∙ ap (followed_text more) same

-- so the bytes are at most those of a head and what follows it
pub whole_short : (input text rest : List ℕ) → head_text input ≡ whole text rest → length input ≤ head_limit + length rest
whole_short input text rest is =
    let w = whole_found input text rest is in
    let held = drop (blank_len input) input in
    let left : drop w.0 held ≡ rest = ap rest_of w.3 in
    let count = ap length left in
    omega (arith, w.2, count, length-drop w.0 held, length-drop (blank_len input) input)
  where
    rest_of : HeadText → List ℕ
    rest_of (whole text after) = after
    rest_of too_long = []
    rest_of cut = []
    rest_of nothing = []

-- bytes without a whole head, and with none that is too long, are fewer than a head may have
pub unfinished_short : (bytes : List ℕ) → IsUnfinished bytes → length bytes < head_limit
unfinished_short bytes unfinished =
    let text = drop (blank_len bytes) bytes in
    omega (arith, short (blank_len bytes) text (head_len text) unfinished, length-drop (blank_len bytes) bytes)
  where
    not_whole : (text rest : List ℕ) → (whole text rest ≡ cut) ⊎ (whole text rest ≡ nothing) → ⊥
    not_whole text rest (inl e) = absurd cc
    not_whole text rest (inr e) = absurd cc

    not_long : (too_long ≡ cut) ⊎ (too_long ≡ nothing) → ⊥
    not_long (inl e) = absurd cc
    not_long (inr e) = absurd cc

    short : (skipped : ℕ) (text : List ℕ) (o : Option ℕ) → (text_at skipped text o ≡ cut) ⊎ (text_at skipped text o ≡ nothing) → skipped + length text < head_limit
    short skipped text (Some n) e =
        elim (cases_lt head_limit (skipped + n)) [
          | inl long ↦ absurd (not_long (rw (lt-leb (skipped + n) head_limit long) at e))
          | inr fits ↦ absurd (not_whole _ _ (rw (le-leb (skipped + n) head_limit fits) at e))
        ]
    short skipped [] None e =
        elim (cases_lt skipped head_limit) [
          | inl few ↦ omega (arith, few)
          | inr many ↦ absurd (not_long (rw (le-leb head_limit skipped many) at e))
        ]
    short skipped (b ∷ text) None e =
        elim (cases_lt (skipped + length (b ∷ text)) head_limit) [
          | inl few ↦ few
          | inr many ↦ absurd (not_long (rw (le-leb head_limit (skipped + length (b ∷ text)) many) at e))
        ]
