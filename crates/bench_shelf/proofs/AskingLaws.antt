-- Questions after questions.
use Rattle.std.proofs.Common.{◌≡◌, refl, ℕ, ◌+◌, List, [], ◌∷◌, ◌++◌, Some, None, length, sym, ap, ◌∙◌, subst, arith}
use Rattle.std.proofs.Common.{append_assoc, append-nil, length-append}
use Rattle.std.specs.Prelude.{Option, IfSome}
use Rattle.std.specs.FinMap.{get}
use Rattle.shelf_defs.specs.Files.{Files, Contents, of_files}
use Rattle.shelf_defs.specs.Copied.{Copied, most_bytes}
use Rattle.shelf_defs.specs.Questions.{names_of, FileAnswer, Bytes, Question, Fits, Agrees, MayFollow, InTurn}
use Rattle.bench_shelf.specs.declared.copying.Copying.{Copying}
use Rattle.bench_shelf.specs.declared.copy_error.CopyError.{CopyError}
use Rattle.bench_shelf.specs.declared.copy_error.CopyError.TheVariants.{At, Fault}
use Rattle.bench_shelf.specs.declared.copy_error.CopyCause.TheVariants.{Missing}
use Rattle.bench_shelf.specs.States.{ShelfState, asked_more}
use Rattle.bench_shelf.specs.Causes.{ReadsOnce}
use Rattle.std.proofs.lemmas.List.{map-append}
use Rattle.bench_shelf.proofs.AmountLaws.{taken_then}
use Rattle.bench_shelf.specs.Leading.{CopiesTo, IsNextAfter, Asking, AllGiven, IsGiven, EndsBy}

-- contents that have the answers of some questions and of others
module _ (limit : ℕ) (contents : Contents) where
  pub agrees_front : (number : ℕ) (xs ys : List Question) → Agrees limit contents number (xs ++ ys) → Agrees limit contents number xs
  agrees_front number [] ys agrees = tt
  agrees_front number (x ∷ xs) ys agrees = (agrees.0, agrees_front (number + 1) xs ys agrees.1)

  pub agrees_back : (number : ℕ) (xs ys : List Question) → Agrees limit contents number (xs ++ ys) → Agrees limit contents (number + length xs) ys
  agrees_back number [] ys agrees =
      let same : number ≡ number + length {A = Question} [] = omega arith in
      subst (λ n. Agrees limit contents n ys) same agrees
  agrees_back number (x ∷ xs) ys agrees =
      let same : number + 1 + length xs ≡ number + length (x ∷ xs) = omega arith in
      subst (λ n. Agrees limit contents n ys) same (agrees_back (number + 1) xs ys agrees.1)

-- files that do not change have the same answers wherever they are asked for
module _ (limit : ℕ) (files : Files) where
  files_from : (number other : ℕ) (xs : List Question) → Agrees limit (of_files files) number xs → Agrees limit (of_files files) other xs
  files_from number other [] agrees = tt
  files_from number other (x ∷ xs) agrees = (agrees.0, files_from (number + 1) (other + 1) xs agrees.1)

  files_then : (number other : ℕ) (xs ys : List Question) → Agrees limit (of_files files) number xs → Agrees limit (of_files files) other ys
      → Agrees limit (of_files files) number (xs ++ ys)
  files_then number other [] ys first others = files_from other number ys others
  files_then number other (x ∷ xs) ys first others = (first.0, files_then (number + 1) other xs ys first.1 others)

pub shown_then : (limit : ℕ) (shown : Option Files) (xs ys : List Question) → IfSome shown (λ files. Agrees limit (of_files files) 0 xs)
    → IfSome shown (λ files. Agrees limit (of_files files) 0 ys) → IfSome shown (λ files. Agrees limit (of_files files) 0 (xs ++ ys))
shown_then limit None xs ys first others = tt
shown_then limit (Some files) xs ys first others = files_then limit files 0 0 xs ys first others

pub shown_none : (limit : ℕ) (shown : Option Files) → IfSome shown (λ files. Agrees limit (of_files files) 0 [])
shown_none limit None = tt
shown_none limit (Some files) = tt

pub shown_one : (limit : ℕ) (shown : Option Files) (name : List ℕ) (answer : FileAnswer) → IfSome shown (λ files. Fits limit answer (get files name))
    → IfSome shown (λ files. Agrees limit (of_files files) 0 (record { name = name; answer = answer } ∷ []))
shown_one limit None name answer fits = tt
shown_one limit (Some files) name answer fits = (fits, tt)

pub all_given : (xs ys : List Question) → AllGiven xs → AllGiven ys → AllGiven (xs ++ ys)
all_given [] ys first others = others
all_given (x ∷ xs) ys first others = (first.0, all_given xs ys first.1 others)

-- names that are asked for after others
more_then : (others : Option (List (List ℕ))) (xs ys : List (List ℕ)) → asked_more (asked_more others xs) ys ≡ asked_more others (xs ++ ys)
more_then None xs ys = refl
more_then (Some before) xs ys = ap Some (append_assoc before xs ys)

more_none : (others : Option (List (List ℕ))) → others ≡ asked_more others []
more_none None = refl
more_none (Some before) = ap Some (sym (append-nil before))

pub reads_none : (limit : ℕ) (s : ShelfState) → ReadsOnce limit [] s s
reads_none limit s = record {
  files = refl;
  asked = more_none s.asked;
  opens = omega arith;
  bytes = 0;
  empty = 0;
  amounts = (refl, refl);
  taken = omega arith;
  ends = omega arith;
  calls = omega arith;
  none = λ none. refl;
}

none_of_both : (xs ys : List Question) → xs ++ ys ≡ [] → (xs ≡ []) × (ys ≡ [])
none_of_both [] ys none = (refl, none)
none_of_both (x ∷ xs) ys none = absurd cc

pub reads_then : (limit : ℕ) (xs ys : List Question) (s t u : ShelfState) → ReadsOnce limit xs s t → ReadsOnce limit ys t u → ReadsOnce limit (xs ++ ys) s u
reads_then limit xs ys s t u first next =
    let all = length-append xs ys in
    record {
      files = next.files ∙ first.files;
      asked = rw (next.asked, first.asked, map-append (λ question. question.name) xs ys) (more_then s.asked (names_of xs) (names_of ys));
      opens = omega (arith, all, first.opens, next.opens);
      bytes = first.bytes + next.bytes;
      empty = first.empty + next.empty;
      amounts = taken_then limit xs ys first.bytes first.empty next.bytes next.empty first.amounts next.amounts;
      taken = omega (arith, first.taken, next.taken);
      ends = omega (arith, first.ends, next.ends);
      calls = omega (arith, first.calls, next.calls);
      none = λ none. let both = none_of_both xs ys none in next.none both.1 ∙ first.none both.0;
    }

may_follow : (answer : FileAnswer) (rest : List Question) → IsGiven answer → MayFollow answer rest
may_follow (Bytes bytes) rest given = tt
may_follow _ rest given = absurd given

pub none_follow : (answer : FileAnswer) → MayFollow answer []
none_follow (Bytes bytes) = tt
none_follow _ = refl

pub turns_then : (IsNext : List Question → Question → Type 0) (front xs ys : List Question) → InTurn IsNext front xs → AllGiven xs
    → InTurn IsNext (front ++ xs) ys → InTurn IsNext front (xs ++ ys)
turns_then IsNext front [] ys first given others = subst (λ f. InTurn IsNext f ys) (append-nil front) others
turns_then IsNext front (x ∷ xs) ys first given others = (
  first.0,
  may_follow x.answer (xs ++ ys) given.0,
  turns_then IsNext (front ++ x ∷ []) xs ys first.2 given.1 (subst (λ f. InTurn IsNext f ys) (sym (append_assoc front (x ∷ []) xs)) others),
)

pub turns_as : (IsNext Other : List Question → Question → Type 0) → ((front : List Question) (x : Question) → IsNext front x → Other front x)
    → (front xs : List Question) → InTurn IsNext front xs → InTurn Other front xs
turns_as IsNext Other each front [] turns = tt
turns_as IsNext Other each front (x ∷ xs) turns =
    (each front x turns.0, turns.1, turns_as IsNext Other each (front ++ x ∷ []) xs turns.2)

-- what is asked after some questions that were answered
module _ (old now : Copying) (whole line : Contents → Copied) (asked : List Question) (number : now.copies ≡ old.copies + length asked)
    (on : (contents : Contents) → Agrees most_bytes contents old.copies asked → (error : CopyError) (last : Copying) → CopiesTo now (line contents) (Some error) last
    → CopiesTo old (whole contents) (Some error) last) where
  next_on : (front : List Question) (x : Question) → IsNextAfter now line front x → IsNextAfter old whole (asked ++ front) x
  next_on front x (place, next) = (
    place,
    λ contents agrees none.
        let same : old.copies + length (asked ++ front) ≡ now.copies + length front = omega (arith, number, length-append asked front) in
        let more =
        next contents (subst (λ n. Agrees most_bytes contents n front) (sym number) (agrees_back most_bytes contents old.copies asked front agrees))
        (subst (λ n. contents n x.name ≡ None) same none) in
        (more.0, on contents (agrees_front most_bytes contents old.copies asked front agrees) (At place.file place.line (Missing x.name)) more.0 more.1),
  )

  turns_on : (front xs : List Question) → InTurn (IsNextAfter now line) front xs → InTurn (IsNextAfter old whole) (asked ++ front) xs
  turns_on front [] turns = tt
  turns_on front (x ∷ xs) turns = (
    next_on front x turns.0,
    turns.1,
    subst (λ f. InTurn (IsNextAfter old whole) f xs) (sym (append_assoc asked front (x ∷ []))) (turns_on (front ++ x ∷ []) xs turns.2),
  )

  pub asking_then : (new : Copying) (a b c : ShelfState) (more : List Question) → AllGiven asked → Asking old now whole asked a b
      → Asking now new line more b c → Asking old new whole (asked ++ more) a c
  asking_then new a b c more given first others = record {
    number = omega (arith, number, others.number, length-append asked more);
    turns = turns_then (IsNextAfter old whole) [] asked more first.turns given
        (subst (λ f. InTurn (IsNextAfter old whole) f more) (append-nil asked) (turns_on [] more others.turns));
    files = shown_then most_bytes a.files asked more first.files
        (subst (λ shown. IfSome shown (λ files. Agrees most_bytes (of_files files) 0 more)) first.reads.files others.files);
    reads = reads_then most_bytes asked more a b c first.reads others.reads;
  }

pub ends_then : (error : CopyError) (xs ys : List Question) → EndsBy (Some error) ys → EndsBy (Some error) (xs ++ ys)
ends_then Fault xs ys ends =
    record { front = xs ++ ends.front; last = ends.last; are = ap (λ all. xs ++ all) ends.are ∙ sym (append_assoc xs ends.front (ends.last ∷ [])); is = ends.is }
ends_then _ xs ys ends = tt

-- nothing is asked
pub asking_none : (old new : Copying) (whole : Contents → Copied) (s : ShelfState) → new.copies ≡ old.copies → Asking old new whole [] s s
asking_none old new whole s same =
    record { number = omega (arith, same); turns = tt; files = shown_none most_bytes s.files; reads = reads_none most_bytes s }
