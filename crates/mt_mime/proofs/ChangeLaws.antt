-- Operations, change sets and batches are spelled in one way.
use Rattle.std.proofs.Common.{◌≡◌, ℕ, ◌+◌, ◌<◌, ◌≤◌, true, false, List, [], ◌∷◌, ◌++◌, length, take, drop, map, get_or, Some, None, Bor, refl, sym, ap, ◌∙◌, subst}
use Rattle.std.specs.Prelude.{option_map, codes}
use Rattle.std.specs.List.{AllZip}
use Rattle.std.proofs.lemmas.List.{take_more, drop_more, take-append-drop, map-append}
use Rattle.httparse.specs.Grammar.{LineEnd, Field, RequestHead, print_request}
use Rattle.httparse.proofs.GrammarLemmas.{request_unique}
use Rattle.mt_http_in.specs.declared.heads.Head.{Head}
use Rattle.mt_http_in.specs.declared.fields.Field.{Field as HeadField}
use Rattle.mt_http_in.specs.Heads.{HoldsHead, fields_of}
use Rattle.mt_mime.specs.declared.changes.Part.{Part}
use Rattle.mt_mime.specs.declared.headers.Peeled.{Peeled}
use Rattle.mt_mime.specs.Headers.{HasFields, Peels, content_type, IsInnerHead, HasNoInnerHead}
use Rattle.mt_mime.specs.Parts.{Multipart, HasParts, HasNoParts, texts_of, Splits}
use Rattle.mt_mime.specs.Changes.{Operation, is_of, SpellsOperation, part_of, ChangeSet, boundary_in, SpellsSet, Batch, SpellsBatch, HasNoBatch, parts_of, bytes_in, ReadsAll, SpellsNone}
use Rattle.mt_mime.proofs.MarkLaws.{clash}
use Rattle.mt_mime.proofs.PartLaws.{parts_unique}
use Rattle.mt_mime.proofs.HeaderLaws.{fields_unique}

-- ---- one operation

same_operation : (o p : Operation) → o.about ≡ p.about → o.last ≡ p.last → o.head ≡ p.head → o.body ≡ p.body → o ≡ p
same_operation o p a l h b =
    let one : o ≡ record { about = p.about; last = o.last; head = o.head; body = o.body } = ap (λ (x : List Field). record { about = x; last = o.last; head = o.head; body = o.body }) a in
    let two : record { about = p.about; last = o.last; head = o.head; body = o.body } ≡ record { about = p.about; last = p.last; head = o.head; body = o.body } = ap (λ (x : LineEnd). record { about = p.about; last = x; head = o.head; body = o.body }) l in
    let three : record { about = p.about; last = p.last; head = o.head; body = o.body } ≡ record { about = p.about; last = p.last; head = p.head; body = o.body } = ap (λ (x : RequestHead). record { about = p.about; last = p.last; head = x; body = o.body }) h in
    let four : record { about = p.about; last = p.last; head = p.head; body = o.body } ≡ p = ap (λ (x : List ℕ). record { about = p.about; last = p.last; head = p.head; body = x }) b in
    one ∙ two ∙ three ∙ four

operation_unique : (text : List ℕ) (o p : Operation) → SpellsOperation text o → SpellsOperation text p → o ≡ p
operation_unique text o p s t =
    let outer = fields_unique text o.about p.about o.last p.last s.rest t.rest s.about t.about in
    let inner = request_unique s.rest o.head p.head o.body p.body (s.head.head.grammar, s.whole) (t.head.head.grammar, outer.rest ∙ t.whole) in
    same_operation o p outer.fields outer.last inner.0 inner.1

part_is : (p : Part) (o : Operation) → p.method ≡ o.head.method → p.target ≡ o.head.target → p.fields ≡ fields_of o.head → p.body ≡ o.body → p ≡ part_of o
part_is p o m t f b =
    let one : p ≡ record { method = o.head.method; target = p.target; fields = p.fields; body = p.body } = ap (λ (x : List ℕ). record { method = x; target = p.target; fields = p.fields; body = p.body }) m in
    let two : record { method = o.head.method; target = p.target; fields = p.fields; body = p.body } ≡ record { method = o.head.method; target = o.head.target; fields = p.fields; body = p.body } = ap (λ (x : List ℕ). record { method = o.head.method; target = x; fields = p.fields; body = p.body }) t in
    let three : record { method = o.head.method; target = o.head.target; fields = p.fields; body = p.body } ≡ record { method = o.head.method; target = o.head.target; fields = fields_of o.head; body = p.body } = ap (λ (x : List HeadField). record { method = o.head.method; target = o.head.target; fields = x; body = p.body }) f in
    let four : record { method = o.head.method; target = o.head.target; fields = fields_of o.head; body = p.body } ≡ part_of o = ap (λ (x : List ℕ). record { method = o.head.method; target = o.head.target; fields = fields_of o.head; body = x }) b in
    one ∙ two ∙ three ∙ four

pub operation_made : (text : List ℕ) (p : Peeled) (v : Head) (part : Part) → Peels text p → is_of (codes "application/http") (option_map (λ (x : Bor (List ℕ)). x.now) p.content_type) ≡ true
    → (h : RequestHead) × IsInnerHead h × HoldsHead v h × (p.rest.now ≡ print_request h ++ drop v.size p.rest.now) × (v.size ≤ length p.rest.now)
    → part.method ≡ v.method → part.target ≡ v.target → part.fields ≡ v.fields → part.body ≡ drop v.size p.rest.now
    → (o : Operation) × SpellsOperation text o × (part ≡ part_of o)
operation_made text p v part peels type head method target fields body =
    let h = head.0 in
    let rest = drop v.size p.rest.now in
    let o : Operation = record { about = peels.fields; last = peels.last; head = h; body = rest } in
    let holds = head.2 in (
      o,
      record {
        rest = p.rest.now;
        about = peels.has;
        type_is = ap (is_of (codes "application/http")) (sym peels.type_is) ∙ type;
        head = head.1;
        whole = head.3;
      },
      part_is part o (method ∙ holds.method) (target ∙ holds.target) (fields ∙ holds.fields) body,
    )

-- the same fields were taken off
pub record Peeling (text : List ℕ) (p : Peeled) (fields : List Field) (rest : List ℕ) : Type 0 where
  pub type_is : content_type fields ≡ option_map (λ (x : Bor (List ℕ)). x.now) p.content_type
  pub rest_is : rest ≡ p.rest.now

peeling : (text : List ℕ) (p : Peeled) (fields : List Field) (last : LineEnd) (rest : List ℕ) → Peels text p → HasFields text fields last rest → Peeling text p fields rest
peeling text p fields last rest peels has =
    let same = fields_unique text fields peels.fields last peels.last rest p.rest.now has peels.has in
    record { type_is = ap content_type same.fields ∙ sym peels.type_is; rest_is = same.rest }

pub no_operation_type : (text : List ℕ) (p : Peeled) → Peels text p → is_of (codes "application/http") (option_map (λ (x : Bor (List ℕ)). x.now) p.content_type) ≡ false → (o : Operation) → SpellsOperation text o → ⊥
no_operation_type text p peels other o s =
    let same = peeling text p o.about o.last s.rest peels s.about in
    clash (is_of (codes "application/http") (content_type o.about)) s.type_is (ap (is_of (codes "application/http")) same.type_is ∙ other)

pub no_operation_head : (text : List ℕ) (p : Peeled) → Peels text p → HasNoInnerHead p.rest.now → (o : Operation) → SpellsOperation text o → ⊥
no_operation_head text p peels none o s =
    let same = peeling text p o.about o.last s.rest peels s.about in
    none o.head o.body s.head (sym same.rest_is ∙ s.whole)

-- ---- one after another

all_push : (xs : List (List ℕ)) (os : List Operation) (x : List ℕ) (o : Operation) → AllZip SpellsOperation xs os → SpellsOperation x o → AllZip SpellsOperation (xs ++ x ∷ []) (os ++ o ∷ [])
all_push [] [] x o s h = (h, tt)
all_push [] (p ∷ os) x o s h = absurd s
all_push (y ∷ xs) [] x o s h = absurd s
all_push (y ∷ xs) (p ∷ os) x o s h = (s.0, all_push xs os x o s.1 h)

all_at : (xs : List (List ℕ)) (x : List ℕ) (ys : List (List ℕ)) (os : List Operation) → AllZip SpellsOperation (xs ++ x ∷ ys) os → (o : Operation) × SpellsOperation x o
all_at [] x ys [] s = absurd s
all_at [] x ys (o ∷ os) s = (o, s.0)
all_at (z ∷ xs) x ys [] s = absurd s
all_at (z ∷ xs) x ys (o ∷ os) s = all_at xs x ys os s.1

all_unique : (xs : List (List ℕ)) (os ps : List Operation) → AllZip SpellsOperation xs os → AllZip SpellsOperation xs ps → os ≡ ps
all_unique [] [] [] a b = refl
all_unique [] (o ∷ os) ps a b = absurd a
all_unique [] [] (p ∷ ps) a b = absurd b
all_unique (x ∷ xs) [] ps a b = absurd a
all_unique (x ∷ xs) (o ∷ os) [] a b = absurd b
all_unique (x ∷ xs) (o ∷ os) (p ∷ ps) a b =
    let one : o ≡ p = operation_unique x o p a.0 b.0 in
    let rest : os ≡ ps = all_unique xs os ps a.1 b.1 in
    cc

bytes_more : (texts : List (Bor (List ℕ))) (at : ℕ) (d : Bor (List ℕ)) → at < length texts → bytes_in (take (at + 1) texts) ≡ bytes_in (take at texts) ++ (get_or texts at d).now ∷ []
bytes_more texts at d inside = ap bytes_in (take_more texts at d inside) ∙ map-append (λ (x : Bor (List ℕ)). x.now) (take at texts) (get_or texts at d ∷ [])

bytes_at : (texts : List (Bor (List ℕ))) (at : ℕ) (d : Bor (List ℕ)) → at < length texts → bytes_in texts ≡ bytes_in (take at texts) ++ (get_or texts at d).now ∷ bytes_in (drop (at + 1) texts)
bytes_at texts at d inside =
    ap bytes_in (sym (take-append-drop at texts))
    ∙ map-append (λ (x : Bor (List ℕ)). x.now) (take at texts) (drop at texts)
    ∙ ap (λ (x : List (Bor (List ℕ))). bytes_in (take at texts) ++ bytes_in x) (drop_more texts at d inside)

pub all_more : (texts : List (Bor (List ℕ))) (at : ℕ) (parts : List Part) (d : Bor (List ℕ)) (part : Part) → ReadsAll (bytes_in (take at texts)) parts → at < length texts
    → (o : Operation) × SpellsOperation (get_or texts at d).now o × (part ≡ part_of o) → ReadsAll (bytes_in (take (at + 1) texts)) (parts ++ part ∷ [])
all_more texts at parts d part f inside found =
    let s = get_or texts at d in
    let os = f.operations ++ found.0 ∷ [] in
    record {
      operations = os;
      spelled = subst (λ (xs : List (List ℕ)). AllZip SpellsOperation xs os) (sym (bytes_more texts at d inside)) (all_push (bytes_in (take at texts)) f.operations s.now found.0 f.spelled found.1);
      parts_are = ap (λ (ps : List Part). ps ++ part ∷ []) f.parts_are ∙ ap (λ (q : Part). map part_of f.operations ++ q ∷ []) found.2 ∙ sym (map-append part_of f.operations (found.0 ∷ []));
    }

pub all_bad : (texts : List (Bor (List ℕ))) (at : ℕ) (d : Bor (List ℕ)) → at < length texts → ((o : Operation) → SpellsOperation (get_or texts at d).now o → ⊥) → SpellsNone (bytes_in texts)
all_bad texts at d inside none os spelled =
    let found = all_at (bytes_in (take at texts)) (get_or texts at d).now (bytes_in (drop (at + 1) texts)) os (subst (λ (xs : List (List ℕ)). AllZip SpellsOperation xs os) (bytes_at texts at d inside) spelled) in
    none found.0 found.1

-- ---- the change set

some_same : (a b : List ℕ) → Some a ≡ Some b → a ≡ b
some_same a b e = cc

none_some : (a : List ℕ) → None ≡ Some a → ⊥
none_some a e = cc

-- the same body of the same boundary
same_inner : (text : List ℕ) (p : Peeled) (boundary : List ℕ) (s : ChangeSet) → Peels text p → boundary_in (option_map (λ (x : Bor (List ℕ)). x.now) p.content_type) ≡ Some boundary → SpellsSet text s
    → HasParts boundary p.rest.now s.inner
same_inner text p boundary s peels is spelled =
    let same = peeling text p s.about s.last spelled.rest peels spelled.about in
    let b : spelled.boundary ≡ boundary = some_same spelled.boundary boundary (sym spelled.boundary_is ∙ ap boundary_in same.type_is ∙ is) in
    subst (λ (t : List ℕ). HasParts boundary t s.inner) same.rest_is (subst (λ (t : List ℕ). HasParts t spelled.rest s.inner) b spelled.parts)

pub no_set_boundary : (text : List ℕ) (p : Peeled) → Peels text p → None ≡ boundary_in (option_map (λ (x : Bor (List ℕ)). x.now) p.content_type) → (s : ChangeSet) → SpellsSet text s → ⊥
no_set_boundary text p peels none s spelled =
    let same = peeling text p s.about s.last spelled.rest peels spelled.about in
    none_some spelled.boundary (none ∙ sym (ap boundary_in same.type_is) ∙ spelled.boundary_is)

pub no_set_parts : (text : List ℕ) (p : Peeled) (boundary : List ℕ) → Peels text p → Some boundary ≡ boundary_in (option_map (λ (x : Bor (List ℕ)). x.now) p.content_type) → HasNoParts boundary p.rest.now
    → (s : ChangeSet) → SpellsSet text s → ⊥
no_set_parts text p boundary peels is none s spelled = none s.inner (same_inner text p boundary s peels (sym is) spelled)

pub no_set_operations : (text : List ℕ) (p : Peeled) (boundary : List ℕ) (texts : List (Bor (List ℕ))) → Peels text p → Some boundary ≡ boundary_in (option_map (λ (x : Bor (List ℕ)). x.now) p.content_type)
    → Splits boundary p.rest.now texts → SpellsNone (bytes_in texts) → (s : ChangeSet) → SpellsSet text s → ⊥
no_set_operations text p boundary texts peels is split none s spelled =
    let same : split.m ≡ s.inner = parts_unique boundary p.rest.now split.m s.inner split.has (same_inner text p boundary s peels (sym is) spelled) in
    none s.operations (subst (λ (xs : List (List ℕ)). AllZip SpellsOperation xs s.operations) (sym (split.texts_are ∙ ap texts_of same)) spelled.each)

pub set_made : (text : List ℕ) (p : Peeled) (boundary : List ℕ) (texts : List (Bor (List ℕ))) (parts : List Part) → Peels text p → Some boundary ≡ boundary_in (option_map (λ (x : Bor (List ℕ)). x.now) p.content_type)
    → Splits boundary p.rest.now texts → ReadsAll (bytes_in texts) parts → (s : ChangeSet) × SpellsSet text s × (parts ≡ map part_of s.operations)
set_made text p boundary texts parts peels is split read = (
  record { about = peels.fields; last = peels.last; inner = split.m; operations = read.operations },
  record {
    rest = p.rest.now;
    about = peels.has;
    boundary = boundary;
    boundary_is = ap boundary_in (sym peels.type_is) ∙ sym is;
    parts = split.has;
    each = subst (λ (xs : List (List ℕ)). AllZip SpellsOperation xs read.operations) split.texts_are read.spelled;
  },
  read.parts_are,
)

same_set : (s t : ChangeSet) → s.about ≡ t.about → s.last ≡ t.last → s.inner ≡ t.inner → s.operations ≡ t.operations → s ≡ t
same_set s t a l i o =
    let one : s ≡ record { about = t.about; last = s.last; inner = s.inner; operations = s.operations } = ap (λ (x : List Field). record { about = x; last = s.last; inner = s.inner; operations = s.operations }) a in
    let two : record { about = t.about; last = s.last; inner = s.inner; operations = s.operations } ≡ record { about = t.about; last = t.last; inner = s.inner; operations = s.operations } = ap (λ (x : LineEnd). record { about = t.about; last = x; inner = s.inner; operations = s.operations }) l in
    let three : record { about = t.about; last = t.last; inner = s.inner; operations = s.operations } ≡ record { about = t.about; last = t.last; inner = t.inner; operations = s.operations } = ap (λ (x : Multipart). record { about = t.about; last = t.last; inner = x; operations = s.operations }) i in
    let four : record { about = t.about; last = t.last; inner = t.inner; operations = s.operations } ≡ t = ap (λ (x : List Operation). record { about = t.about; last = t.last; inner = t.inner; operations = x }) o in
    one ∙ two ∙ three ∙ four

set_unique : (text : List ℕ) (s t : ChangeSet) → SpellsSet text s → SpellsSet text t → s ≡ t
set_unique text s t a b =
    let outer = fields_unique text s.about t.about s.last t.last a.rest b.rest a.about b.about in
    let bound : a.boundary ≡ b.boundary = some_same a.boundary b.boundary (sym a.boundary_is ∙ ap (λ (x : List Field). boundary_in (content_type x)) outer.fields ∙ b.boundary_is) in
    let theirs : HasParts a.boundary a.rest t.inner = subst (λ (x : List ℕ). HasParts a.boundary x t.inner) (sym outer.rest) (subst (λ (x : List ℕ). HasParts x b.rest t.inner) (sym bound) b.parts) in
    let inner : s.inner ≡ t.inner = parts_unique a.boundary a.rest s.inner t.inner a.parts theirs in
    same_set s t outer.fields outer.last inner
    (all_unique (texts_of s.inner) s.operations t.operations a.each (subst (λ (x : Multipart). AllZip SpellsOperation (texts_of x) t.operations) (sym inner) b.each))

-- ---- the whole body

pub batch_made : (boundary body : List ℕ) (texts : List (Bor (List ℕ))) (text : Bor (List ℕ)) (parts : List Part) → Splits boundary body texts → texts ≡ text ∷ []
    → (s : ChangeSet) × SpellsSet text.now s × (parts ≡ map part_of s.operations) → (b : Batch) × SpellsBatch boundary body b × (parts ≡ parts_of b)
batch_made boundary body texts text parts split one set = (
  record { outer = split.m; changes = set.0 },
  record { parts = split.has; text = text.now; one = sym split.texts_are ∙ ap bytes_in one; changes = set.1 },
  set.2,
)

head_same : (a b : List ℕ) → a ∷ [] ≡ b ∷ [] → a ≡ b
head_same a b e = cc

-- the texts of each reading of the body
texts_same : (boundary body : List ℕ) (texts : List (Bor (List ℕ))) (b : Batch) → Splits boundary body texts → SpellsBatch boundary body b → bytes_in texts ≡ texts_of b.outer
texts_same boundary body texts b split spelled = split.texts_are ∙ ap texts_of (parts_unique boundary body split.m b.outer split.has spelled.parts)

pub no_batch_set : (boundary body : List ℕ) (texts : List (Bor (List ℕ))) (text : Bor (List ℕ)) → Splits boundary body texts → texts ≡ text ∷ [] → ((s : ChangeSet) → SpellsSet text.now s → ⊥) → HasNoBatch boundary body
no_batch_set boundary body texts text split one none b spelled =
    let same : text.now ≡ spelled.text = head_same text.now spelled.text (sym (ap bytes_in one) ∙ texts_same boundary body texts b split spelled ∙ spelled.one) in
    none b.changes (subst (λ (x : List ℕ). SpellsSet x b.changes) (sym same) spelled.changes)

one_text : (texts : List (Bor (List ℕ))) (text : List ℕ) → bytes_in texts ≡ text ∷ [] → length texts ≡ 1
one_text [] text e = absurd (cc)
one_text (t ∷ []) text e = refl
one_text (t ∷ u ∷ texts) text e = absurd (cc)

pub no_batch_many : (boundary body : List ℕ) (texts : List (Bor (List ℕ))) → Splits boundary body texts → (length texts ≡ 1 → ⊥) → HasNoBatch boundary body
no_batch_many boundary body texts split many b spelled =
    let same : bytes_in texts ≡ spelled.text ∷ [] = texts_same boundary body texts b split spelled ∙ spelled.one in
    many (one_text texts spelled.text same)

same_batch : (b d : Batch) → b.outer ≡ d.outer → b.changes ≡ d.changes → b ≡ d
same_batch b d o c =
    let one : b ≡ record { outer = d.outer; changes = b.changes } = ap (λ (x : Multipart). record { outer = x; changes = b.changes }) o in
    let two : record { outer = d.outer; changes = b.changes } ≡ d = ap (λ (x : ChangeSet). record { outer = d.outer; changes = x }) c in
    one ∙ two

pub batch_unique : (boundary body : List ℕ) (b d : Batch) → SpellsBatch boundary body b → SpellsBatch boundary body d → b ≡ d
batch_unique boundary body b d s t =
    let outer : b.outer ≡ d.outer = parts_unique boundary body b.outer d.outer s.parts t.parts in
    let text : s.text ≡ t.text = head_same s.text t.text (sym s.one ∙ ap texts_of outer ∙ t.one) in
    same_batch b d outer (set_unique s.text b.changes d.changes s.changes (subst (λ (x : List ℕ). SpellsSet x d.changes) (sym text) t.changes))
