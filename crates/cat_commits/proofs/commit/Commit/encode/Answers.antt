use Rattle.std.proofs.Common.{◌≡◌, ℕ, List, [], ◌∷◌, ◌++◌, length, sym, ap, ◌∙◌, append_assoc}
use Rattle.std.specs.List.{flat_map}
use Rattle.std.proofs.lemmas.Result.{IfOk-from_err}
use Rattle.cat_base.specs.Bytes.{spelled_u32, spelled_u64, spelled_bytes}
use Rattle.cat_model.specs.CommitFile.{CommitFile, ListedSegment, Version, spelled_commit, spelled_listed}
use Rattle.cat_model.specs.SegmentFile.{spelled_each, spelled_field}
use Rattle.cat_commits.specs.Versions.{version_of}
use Rattle.cat_commits.proofs.commit.Commit.encode.Goals as goal

-- a part that was appended stands before the rest
before : (old new part rest : List ℕ) → new ≡ old ++ part → new ++ rest ≡ old ++ (part ++ rest)
before old new part rest e = ap (λ (l : List ℕ). l ++ rest) e ∙ append_assoc old part rest

-- the parts of a commit's file, one behind another
parts_spelled : (c : CommitFile) (o1 o2 o3 o4 o5 o6 o7 o8 o9 : List ℕ) → c.version ≡ Version.second → o1 ≡ [] ++ spelled_u32 1129531213 → o2 ≡ o1 ++ 2 ∷ []
    → o3 ≡ o2 ++ spelled_u64 c.generation → o4 ≡ o3 ++ spelled_u64 c.token → o5 ≡ o4 ++ spelled_u64 c.next → o6 ≡ o5 ++ spelled_bytes c.text
    → o7 ≡ o6 ++ spelled_each spelled_field c.schema → o8 ≡ o7 ++ spelled_u32 (length c.segments) → o9 ≡ o8 ++ flat_map spelled_listed c.segments → o9 ≡ spelled_commit c
parts_spelled c o1 o2 o3 o4 o5 o6 o7 o8 o9 second e1 e2 e3 e4 e5 e6 e7 e8 e9 =
    let r8 : List ℕ = flat_map spelled_listed c.segments in
    let r7 : List ℕ = spelled_u32 (length c.segments) ++ r8 in
    let r6 : List ℕ = spelled_each spelled_field c.schema ++ r7 in
    let r5 : List ℕ = spelled_bytes c.text ++ r6 in
    let r4 : List ℕ = spelled_u64 c.next ++ r5 in
    let r3 : List ℕ = spelled_u64 c.token ++ r4 in
    let r2 : List ℕ = spelled_u64 c.generation ++ r3 in
    e9 ∙ before o7 o8 (spelled_u32 (length c.segments)) r8 e8
    ∙ before o6 o7 (spelled_each spelled_field c.schema) r7 e7
    ∙ before o5 o6 (spelled_bytes c.text) r6 e6
    ∙ before o4 o5 (spelled_u64 c.next) r5 e5
    ∙ before o3 o4 (spelled_u64 c.token) r4 e4
    ∙ before o2 o3 (spelled_u64 c.generation) r3 e3
    ∙ before o1 o2 (2 ∷ []) r2 e2
    ∙ before [] o1 (spelled_u32 1129531213) (2 ∷ r2) e1
    ∙ ap (λ (v : Version). spelled_commit (record c { version = v })) (sym second)

pub returns-in_err-put_u32 : goal.returns-in_err-put_u32
returns-in_err-put_u32 c = IfOk-from_err _ _ c.from_residual.ensures.0

pub returns-in_err-push : goal.returns-in_err-push
returns-in_err-push c = IfOk-from_err _ _ c.from_residual-in_err-push.ensures.0

pub returns-in_err-put_u64 : goal.returns-in_err-put_u64
returns-in_err-put_u64 c = IfOk-from_err _ _ c.from_residual-in_err-put_u64.ensures.0

pub returns-in_err-put_u64-2 : goal.returns-in_err-put_u64-2
returns-in_err-put_u64-2 c = IfOk-from_err _ _ c.from_residual-in_err-put_u64-2.ensures.0

pub returns-in_err-put_u64-3 : goal.returns-in_err-put_u64-3
returns-in_err-put_u64-3 c = IfOk-from_err _ _ c.from_residual-in_err-put_u64-3.ensures.0

pub returns-in_err-put_bytes : goal.returns-in_err-put_bytes
returns-in_err-put_bytes c = IfOk-from_err _ _ c.from_residual-in_err-put_bytes.ensures.0

pub returns-in_err-put_fields : goal.returns-in_err-put_fields
returns-in_err-put_fields c = IfOk-from_err _ _ c.from_residual-in_err-put_fields.ensures.0

pub returns-in_err-put_u32-2 : goal.returns-in_err-put_u32-2
returns-in_err-put_u32-2 c = IfOk-from_err _ _ c.from_residual-in_err-put_u32-2.ensures.0

pub returns-in_err-put_segments : goal.returns-in_err-put_segments
returns-in_err-put_segments c = IfOk-from_err _ _ c.from_residual-in_err-put_segments.ensures.0

pub returns : goal.returns
returns c =
    let told : CommitFile = record {
      version = version_of c.self.inside.version;
      generation = c.self.inside.generation;
      token = c.self.inside.token;
      next = c.self.inside.next_segment;
      text = c.self.inside.text;
      schema = c.self.inside.schema;
      segments = c.self.inside.segments.items;
    } in
    let o5 : List ℕ = c.put_u64-3.new.out.items in
    let o7 : List ℕ = c.put_fields.new.out.items in
    let o8 : List ℕ = c.put_u32-2.new.out.items in
    record {
      form = c.requires.form;
      spelled = parts_spelled told c.put_u32.new.out.items c.push.new.self.items c.put_u64.new.out.items c.put_u64-2.new.out.items o5 c.put_bytes.new.out.items o7 o8
          c.put_segments.new.out.items (ap (λ (x : CommitFile). x.version) c.self.view_is ∙ c.requires.second)
          (c.in_ok-put_u32.ensures.ok ∙ ap (λ (l : List ℕ). l ++ spelled_u32 1129531213) c.new-out.ensures.items) c.in_ok-push.ensures.items c.in_ok-put_u64.ensures.ok c.in_ok-put_u64-2.ensures.ok
          c.in_ok-put_u64-3.ensures.ok (c.in_ok-put_bytes.ensures.ok ∙ ap (λ (b : List ℕ). o5 ++ spelled_bytes b) (c.as_bytes.ensures.value ∙ c.as_str.ensures)) c.in_ok-put_fields.ensures
          (c.in_ok-put_u32-2.ensures.ok ∙ ap (λ (n : ℕ). o7 ++ spelled_u32 n) (c.len.ensures ∙ c.self.inside.segments.ok.0))
          (c.in_ok-put_segments.ensures ∙ ap (λ (xs : List ListedSegment). o8 ++ flat_map spelled_listed xs) c.deref.ensures.value)
          ∙ ap spelled_commit c.self.view_is;
    }
