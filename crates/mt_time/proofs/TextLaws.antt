-- The text of a moment has its parts at fixed places.
use Rattle.std.proofs.Common.{◌≡◌, ℕ, ◌^◌, ◌<◌, Option, Some, None, List, [], ◌∷◌, ◌++◌, length, take, drop, refl, sym, ap, ◌∙◌, arith, subst, length-append, append_assoc}
use Rattle.std.specs.Str.Parse.{AllDigits, digits_value}
use Rattle.std.specs.Prelude.{MatchOption, pos}
use Rattle.std.specs.List.{IsSplitAt}
use Rattle.jiff_core.proofs.CalendarLemmas.{days_in_month_bounds}
use Rattle.std.proofs.Math.Seq.{take-append_seam, drop-append_seam}
use Rattle.std.proofs.lemmas.List.{take-append-drop, append_cancel_right}
use Rattle.std.proofs.lemmas.Int.Digits.{digits_value-lt}
use Rattle.mt_time.specs.Digits.{numeral, AreDecimals, fraction_of}
use Rattle.mt_time.specs.Moment.{Parts, IsDateTime, text_of, two_after, end_of}
use Rattle.mt_time.specs.Written.{AreShort, with_decimals}
use Rattle.mt_time.specs.declared.fields.Fields.{Fields}
use Rattle.mt_time.proofs.DigitLaws.{length-numeral, digits-numeral, value-numeral, numeral-value}

front_of : (k n : ℕ) (rest : List ℕ) → take k (numeral k n ++ rest) ≡ numeral k n
front_of k n rest = ap (λ j. take j (numeral k n ++ rest)) (sym (length-numeral k n)) ∙ take-append_seam (numeral k n) rest

back_of : (k n : ℕ) (rest : List ℕ) → drop k (numeral k n ++ rest) ≡ rest
back_of k n rest = ap (λ j. drop j (numeral k n ++ rest)) (sym (length-numeral k n)) ∙ drop-append_seam (numeral k n) rest

-- too short for a numeral
pub number_short : (text : List ℕ) (k : ℕ) → length text < k → (n : ℕ) (rest : List ℕ) → text ≡ numeral k n ++ rest → ⊥
number_short text k short n rest is = omega (arith, short, ap length is, length-append (numeral k n) rest, length-numeral k n)

pub number_none : (text digits back : List ℕ) (k : ℕ) → IsSplitAt text k digits back → (AllDigits 10 digits → ⊥) → (n : ℕ) (rest : List ℕ) → text ≡ numeral k n ++ rest → ⊥
number_none text digits back k split none n rest is =
    let front : digits ≡ numeral k n = split.1 ∙ ap (take k) is ∙ front_of k n rest in
    none (subst (AllDigits 10) (sym front) (digits-numeral k n))

pub number_some : (text digits back : List ℕ) (k n : ℕ) → IsSplitAt text k digits back → AllDigits 10 digits × (n ≡ digits_value 10 digits) → (n < 10 ^ k) × (text ≡ numeral k n ++ back)
number_some text digits back k n split value =
    let below : digits_value 10 digits < 10 ^ length digits = digits_value-lt 10 digits value.0 in
    let small : n < 10 ^ k = subst (λ m. m < 10 ^ k) (sym value.1) (subst (λ j. digits_value 10 digits < 10 ^ j) split.3 below) in
    let front : numeral k n ≡ digits = ap (numeral k) value.1 ∙ numeral-value k digits split.3 value.0 in
    let whole : text ≡ digits ++ back = sym (take-append-drop k text) ∙ ap (λ v. v ++ drop k text) (sym split.1) ∙ ap (λ v. digits ++ v) (sym split.2) in
    (small, whole ∙ ap (λ v. v ++ back) (sym front))

-- what stands from a place on
abbrev pub at_second : Parts → List ℕ
at_second p = two_after 58 p.second (end_of p.decimals)

abbrev pub at_minute : Parts → List ℕ
at_minute p = two_after 58 p.minute (at_second p)

abbrev pub at_hour : Parts → List ℕ
at_hour p = two_after 84 p.hour (at_minute p)

abbrev pub at_day : Parts → List ℕ
at_day p = two_after 45 p.day (at_hour p)

abbrev pub at_month : Parts → List ℕ
at_month p = two_after 45 p.month (at_day p)

pub text_is : (p : Parts) → text_of p ≡ numeral 4 p.year ++ at_month p
unfolding text_of
text_is p = refl

pub text_made : (p : Parts) (text m d h i s e : List ℕ) → text ≡ numeral 4 p.year ++ m → m ≡ two_after 45 p.month d → d ≡ two_after 45 p.day h → h ≡ two_after 84 p.hour i → i ≡ two_after 58 p.minute s → s ≡ two_after 58 p.second e → e ≡ end_of p.decimals → text ≡ text_of p
text_made p text m d h i s e year month day hour minute second end =
    let at_s : s ≡ at_second p = second ∙ ap (two_after 58 p.second) end in
    let at_i : i ≡ at_minute p = minute ∙ ap (two_after 58 p.minute) at_s in
    let at_h : h ≡ at_hour p = hour ∙ ap (two_after 84 p.hour) at_i in
    let at_d : d ≡ at_day p = day ∙ ap (two_after 45 p.day) at_h in
    let at_m : m ≡ at_month p = month ∙ ap (two_after 45 p.month) at_d in
    year ∙ ap (λ v. numeral 4 p.year ++ v) at_m ∙ sym (text_is p)

-- where two texts are the same, so is what follows a numeral
pub rest_same : (k a b : ℕ) (text r s : List ℕ) → text ≡ numeral k a ++ r → text ≡ numeral k b ++ s → r ≡ s
rest_same k a b text r s p q = sym (back_of k a r) ∙ ap (drop k) (sym p ∙ q) ∙ back_of k b s

pub number_same : (k a b : ℕ) (text r s : List ℕ) → a < 10 ^ k → b < 10 ^ k → text ≡ numeral k a ++ r → text ≡ numeral k b ++ s → a ≡ b
number_same k a b text r s x y p q =
    let same : numeral k a ≡ numeral k b = sym (front_of k a r) ∙ ap (take k) (sym p ∙ q) ∙ front_of k b s in
    sym (value-numeral k a x) ∙ ap (digits_value 10) same ∙ value-numeral k b y

pub rest_after : (c a b : ℕ) (text r s : List ℕ) → text ≡ two_after c a r → text ≡ two_after c b s → r ≡ s
rest_after c a b text r s p q = rest_same 2 a b (drop 1 text) r s (ap (drop 1) p) (ap (drop 1) q)

pub two_same : (c a b : ℕ) (text r s : List ℕ) → a < 100 → b < 100 → text ≡ two_after c a r → text ≡ two_after c b s → a ≡ b
two_same c a b text r s x y p q = number_same 2 a b (drop 1 text) r s x y (ap (drop 1) p) (ap (drop 1) q)

pub end_same : (ds es : List ℕ) → end_of ds ≡ end_of es → ds ≡ es
end_same [] [] is = refl
end_same [] (e ∷ es) is = let none : ⊥ = cc in absurd none
end_same (d ∷ ds) [] is = let none : ⊥ = cc in absurd none
end_same (d ∷ ds) (e ∷ es) is = append_cancel_right (d ∷ ds) (e ∷ es) (90 ∷ []) (ap (drop 1) is)

before_end : List ℕ → List ℕ
before_end [] = []
before_end (d ∷ ds) = 46 ∷ (d ∷ ds)

end_is : (ds : List ℕ) → end_of ds ≡ before_end ds ++ (90 ∷ [])
unfolding before_end
end_is [] = refl
end_is (d ∷ ds) = refl

before_end_same : (front ds : List ℕ) → front ++ (90 ∷ []) ≡ end_of ds → front ≡ before_end ds
before_end_same front ds is = append_cancel_right front (before_end ds) (90 ∷ []) (is ∙ end_is ds)

end_of_some : (ds : List ℕ) → 0 < length ds → end_of ds ≡ 46 ∷ (ds ++ (90 ∷ []))
end_of_some [] some = let none : ⊥ = omega (arith, some) in absurd none
end_of_some (d ∷ ds) some = refl

-- a text that does not end in Z
pub end_without_z : (text : List ℕ) → ((front : List ℕ) → text ≡ front ++ (90 ∷ []) → ⊥) → (ds : List ℕ) → AreDecimals ds → text ≡ end_of ds → ⊥
end_without_z text none ds d is = none (before_end ds) (is ∙ end_is ds)

-- something stands before Z, and it does not begin with a point
pub end_without_point : (text front : List ℕ) → text ≡ front ++ (90 ∷ []) → 0 < length front → ((rest : List ℕ) → front ≡ 46 ∷ rest → ⊥) → (ds : List ℕ) → AreDecimals ds → text ≡ end_of ds → ⊥
unfolding before_end
end_without_point text front whole some none [] d is =
    let empty : front ≡ [] = before_end_same front [] (sym whole ∙ is) in
    omega (arith, some, ap length empty)
end_without_point text front whole some none (e ∷ es) d is = none (e ∷ es) (before_end_same front (e ∷ es) (sym whole ∙ is))

pub end_without_decimals : (text front digits : List ℕ) → text ≡ front ++ (90 ∷ []) → front ≡ 46 ∷ digits → (AreDecimals digits → 0 < length digits → ⊥) → (ds : List ℕ) → AreDecimals ds → text ≡ end_of ds → ⊥
unfolding before_end
end_without_decimals text front digits whole point none [] d is =
    let empty : front ≡ [] = before_end_same front [] (sym whole ∙ is) in
    omega (arith, ap length (sym empty ∙ point))
end_without_decimals text front digits whole point none (e ∷ es) d is =
    let same : digits ≡ e ∷ es = ap (drop 1) (sym point ∙ before_end_same front (e ∷ es) (sym whole ∙ is)) in
    none (subst AreDecimals (sym same) d) (omega (arith, ap length same))

pub end_with_decimals : (text front digits : List ℕ) → text ≡ front ++ (90 ∷ []) → front ≡ 46 ∷ digits → 0 < length digits → text ≡ end_of digits
end_with_decimals text front digits whole point some = whole ∙ ap (λ v. v ++ (90 ∷ [])) point ∙ sym (end_of_some digits some)

-- what reading the decimals answers says of the end of the text
pub end_read : (text front digits : List ℕ) (r : Option ℕ) → text ≡ front ++ (90 ∷ []) → front ≡ 46 ∷ digits
    → MatchOption r (AreDecimals digits → 0 < length digits → ⊥) (λ n. (n < 10_000_000) × AreDecimals digits × (0 < length digits) × (n ≡ fraction_of digits))
    → MatchOption r ((ds : List ℕ) → AreDecimals ds → text ≡ end_of ds → ⊥) (λ n. (n < 10_000_000) × ((ds : List ℕ) × AreDecimals ds × (text ≡ end_of ds) × (n ≡ fraction_of ds)))
end_read text front digits None whole point x = end_without_decimals text front digits whole point x
end_read text front digits (Some n) whole point x = (x.0, (digits, x.1, end_with_decimals text front digits whole point x.2, x.3))

-- parts that fit into their places
pub record IsWide (p : Parts) : Type 0 where
  pub year : p.year < 10_000
  pub month : p.month < 100
  pub day : p.day < 100
  pub hour : p.hour < 100
  pub minute : p.minute < 100
  pub second : p.second < 100

pub wide : (p : Parts) → IsDateTime p → IsWide p
wide p d = record {
  year = omega (arith, d.year.1);
  month = omega (arith, d.month.1);
  day = omega (arith, d.day.1, (days_in_month_bounds (pos p.year) p.month).0);
  hour = omega (arith, d.hour);
  minute = omega (arith, d.minute);
  second = omega (arith, d.second);
}

abbrev pub parts : ℕ → ℕ → ℕ → ℕ → ℕ → ℕ → List ℕ → Parts
parts y m d h i s z = record { year = y; month = m; day = d; hour = h; minute = i; second = s; decimals = z }

pub same_parts : (p q : Parts) → p.year ≡ q.year → p.month ≡ q.month → p.day ≡ q.day → p.hour ≡ q.hour → p.minute ≡ q.minute → p.second ≡ q.second → p.decimals ≡ q.decimals → p ≡ q
same_parts p q y m d h i s z =
    ap (λ v. parts v p.month p.day p.hour p.minute p.second p.decimals) y
    ∙ ap (λ v. parts q.year v p.day p.hour p.minute p.second p.decimals) m
    ∙ ap (λ v. parts q.year q.month v p.hour p.minute p.second p.decimals) d
    ∙ ap (λ v. parts q.year q.month q.day v p.minute p.second p.decimals) h
    ∙ ap (λ v. parts q.year q.month q.day q.hour v p.second p.decimals) i
    ∙ ap (λ v. parts q.year q.month q.day q.hour q.minute v p.decimals) s
    ∙ ap (λ v. parts q.year q.month q.day q.hour q.minute q.second v) z

pub wide_fields : (f : Fields) (ds : List ℕ) → AreShort f → IsWide (with_decimals f ds)
wide_fields f ds s = record { year = s.year; month = s.month; day = s.day; hour = s.hour; minute = s.minute; second = s.second }

-- one text has one reading
pub text_unique : (p q : Parts) → IsWide p → IsWide q → text_of p ≡ text_of q → p ≡ q
text_unique p q v w is =
    let here : text_of p ≡ numeral 4 p.year ++ at_month p = text_is p in
    let there : text_of p ≡ numeral 4 q.year ++ at_month q = is ∙ text_is q in
    let month : at_month p ≡ at_month q = rest_same 4 p.year q.year (text_of p) (at_month p) (at_month q) here there in
    let day = rest_after 45 p.month q.month (at_month p) _ _ refl month in
    let hour = rest_after 45 p.day q.day _ _ _ refl day in
    let minute = rest_after 84 p.hour q.hour _ _ _ refl hour in
    let second = rest_after 58 p.minute q.minute _ _ _ refl minute in
    let end = rest_after 58 p.second q.second _ _ _ refl second in
    same_parts p q
    (number_same 4 p.year q.year (text_of p) (at_month p) (at_month q) v.year w.year here there)
    (two_same 45 p.month q.month (at_month p) _ _ v.month w.month refl month)
    (two_same 45 p.day q.day _ _ _ v.day w.day refl day)
    (two_same 84 p.hour q.hour _ _ _ v.hour w.hour refl hour)
    (two_same 58 p.minute q.minute _ _ _ v.minute w.minute refl minute)
    (two_same 58 p.second q.second _ _ _ v.second w.second refl second)
    (end_same p.decimals q.decimals end)

-- the text as it is pushed, a piece at a time
pub text_pushed : (p : Parts) → 0 < length p.decimals
    → ((((((((numeral 4 p.year ++ (45 ∷ numeral 2 p.month)) ++ (45 ∷ numeral 2 p.day)) ++ (84 ∷ numeral 2 p.hour)) ++ (58 ∷ numeral 2 p.minute)) ++ (58 ∷ numeral 2 p.second)) ++ (46 ∷ [])) ++ p.decimals) ++ (90 ∷ [])) ≡ text_of p
unfolding numeral
text_pushed p some = rw (text_is p, end_of_some p.decimals some) (simp append_assoc refl)

pub text_steps : (p : Parts) (new year month day hour minute second point decimals whole : List ℕ) → 0 < length p.decimals
    → new ≡ [] → year ≡ new ++ numeral 4 p.year → month ≡ year ++ (45 ∷ numeral 2 p.month) → day ≡ month ++ (45 ∷ numeral 2 p.day)
    → hour ≡ day ++ (84 ∷ numeral 2 p.hour) → minute ≡ hour ++ (58 ∷ numeral 2 p.minute) → second ≡ minute ++ (58 ∷ numeral 2 p.second)
    → point ≡ second ++ (46 ∷ []) → decimals ≡ point ++ p.decimals → whole ≡ decimals ++ (90 ∷ []) → whole ≡ text_of p
text_steps p new year month day hour minute second point decimals whole some n y m d h i s o z w =
    let y1 : year ≡ numeral 4 p.year = y ∙ ap (λ v. v ++ numeral 4 p.year) n in
    let m1 = m ∙ ap (λ v. v ++ (45 ∷ numeral 2 p.month)) y1 in
    let d1 = d ∙ ap (λ v. v ++ (45 ∷ numeral 2 p.day)) m1 in
    let h1 = h ∙ ap (λ v. v ++ (84 ∷ numeral 2 p.hour)) d1 in
    let i1 = i ∙ ap (λ v. v ++ (58 ∷ numeral 2 p.minute)) h1 in
    let s1 = s ∙ ap (λ v. v ++ (58 ∷ numeral 2 p.second)) i1 in
    let o1 = o ∙ ap (λ v. v ++ (46 ∷ [])) s1 in
    let z1 = z ∙ ap (λ v. v ++ p.decimals) o1 in
    w ∙ ap (λ v. v ++ (90 ∷ [])) z1 ∙ text_pushed p some
