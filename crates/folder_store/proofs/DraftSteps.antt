-- The object being written, from its file's making to its place among the objects.
use Rattle.std.proofs.Common.{◌≡◌, ◌≢◌, ℕ, List, [], ◌++◌, length, true, false, cond, Some, None, refl, ap, sym, ◌∙◌, inl, inr, eq-eqb}
use Rattle.std.specs.Option.{option_map, unwrap_or}
use Rattle.std.specs.FinMap as map
use Rattle.std.specs.FinMap.{slice_cmp-IsAntisymmetric, nat_cmp-IsAntisymmetric}
use Rattle.std.specs.Ordering.{nat_cmp, eq_by_cmp}
use Rattle.std.specs.Cmp.Lexicographic.{slice_cmp, nat_list_cmp_total}
use Rattle.std.proofs.lemmas.Bool.{cases_Bool}
use Rattle.folder_store.specs.Disks.{Disk, file_at, IsNew, with_bytes, made, renamed, part_end, is_object, objects_of}
use Rattle.folder_store.specs.Shown.{IsFresh, IsDraft}
use Rattle.folder_store.proofs.ObjectSteps.{tied, untied, tied_itself, ends_part, other_path}
use Rattle.folder_store.specs.ObjectBytes.{get_object}
use Rattle.folder_store.proofs.WriteSteps.{there}

pub fresh_made : (d : Disk) (path : List ℕ) (number : ℕ) → IsNew d number → IsFresh (made d path number) path number
fresh_made d path number new = record {
  stands = map.get-insert nat_list_cmp_total d.files path number path ∙ ap (λ b. cond b (Some number) (file_at d path)) (tied_itself path);
  alone = λ other is. elim (cases_Bool (eq_by_cmp (slice_cmp nat_cmp) other path)) [
    | inl same ↦ tied other path same
    | inr apart ↦ absurd (new other (sym (map.get-insert nat_list_cmp_total d.files path number other ∙ ap (λ b. cond b (Some number) (file_at d other)) apart) ∙ is))
  ];
  empty = ap (λ b. cond b [] (d.holds number)) (eq-eqb number number refl);
}

pub draft_fresh : (d : Disk) (name path : List ℕ) (number : ℕ) → IsFresh d path number → path ≡ name ++ part_end → is_object name ≡ true → IsDraft d name path number 0
draft_fresh d name path number f e is = record {
  path_is = e;
  stands = f.stands;
  alone = f.alone;
  is = is;
  length_is = ap length (sym f.empty);
}

pub draft_written : (d : Disk) (name path : List ℕ) (number len : ℕ) (bytes : List ℕ) → IsDraft d name path number len → IsDraft (with_bytes d number bytes) name path number (length bytes)
draft_written d name path number len bytes draft = record {
  path_is = draft.path_is;
  stands = draft.stands;
  alone = draft.alone;
  is = draft.is;
  length_is = ap length (sym (there d number bytes));
}

-- a draft's path has part object
pub no_object : (d : Disk) (name path : List ℕ) (number len : ℕ) → IsDraft d name path number len → is_object path ≡ false
no_object d name path number len draft = ap is_object draft.path_is ∙ ends_part name

-- what stands at the name is another file
pub another : (d : Disk) (name path : List ℕ) (number len : ℕ) → IsDraft d name path number len → file_at d path ≢ file_at d name
another d name path number len draft e =
    other_path name path draft.is (no_object d name path number len draft) (draft.alone name (sym e ∙ draft.stands))

pub put_in : (d : Disk) (name path : List ℕ) (number len : ℕ) → IsDraft d name path number len → objects_of (renamed d path name) ≡ map.insert (objects_of d) name (d.holds number)
put_in d name path number len draft =
    let part = no_object d name path number len draft in
    let file : unwrap_or (file_at d path) 0 ≡ number = ap (λ o. unwrap_or o 0) draft.stands in
    let e = renamed d path name in
    map.same_map nat_list_cmp_total (slice_cmp-IsAntisymmetric nat_cmp-IsAntisymmetric) _ _ (λ q.
    let at : file_at e q ≡ cond (eq_by_cmp (slice_cmp nat_cmp) q name) (Some (unwrap_or (file_at d path) 0)) (cond (eq_by_cmp (slice_cmp nat_cmp) q path) None (file_at d q)) =
    map.get-insert nat_list_cmp_total (map.remove d.files path) name (unwrap_or (file_at d path) 0) q
    ∙ ap (cond (eq_by_cmp (slice_cmp nat_cmp) q name) (Some (unwrap_or (file_at d path) 0))) (map.get-remove nat_list_cmp_total d.files path q) in
    let put : map.get (map.insert (objects_of d) name (d.holds number)) q ≡ cond (eq_by_cmp (slice_cmp nat_cmp) q name) (Some (d.holds number)) (cond (is_object q) (option_map d.holds (file_at d q)) None) =
    map.get-insert nat_list_cmp_total (objects_of d) name (d.holds number) q ∙ ap (cond (eq_by_cmp (slice_cmp nat_cmp) q name) (Some (d.holds number))) (get_object d q) in
    get_object e q ∙ ap (λ o. cond (is_object q) (option_map d.holds o) None) at
    ∙ elim (cases_Bool (eq_by_cmp (slice_cmp nat_cmp) q name)) [
      | inl same ↦
          ap (λ b. cond (is_object q) (option_map d.holds (cond b (Some (unwrap_or (file_at d path) 0)) (cond (eq_by_cmp (slice_cmp nat_cmp) q path) None (file_at d q)))) None) same
          ∙ ap (λ b. cond b (Some (d.holds (unwrap_or (file_at d path) 0))) None) (ap is_object (tied q name same) ∙ draft.is)
          ∙ ap (λ n. Some (d.holds n)) file
          ∙ sym (put ∙ ap (λ b. cond b (Some (d.holds number)) (cond (is_object q) (option_map d.holds (file_at d q)) None)) same)
      | inr apart ↦
          ap (λ b. cond (is_object q) (option_map d.holds (cond b (Some (unwrap_or (file_at d path) 0)) (cond (eq_by_cmp (slice_cmp nat_cmp) q path) None (file_at d q)))) None) apart
          ∙ elim (cases_Bool (is_object q)) [
            | inl is ↦ ap (λ b. cond (is_object q) (option_map d.holds (cond b None (file_at d q))) None) (untied q path (other_path q path is part))
            | inr not_one ↦ ap (λ b. cond b (option_map d.holds (cond (eq_by_cmp (slice_cmp nat_cmp) q path) None (file_at d q))) None) not_one ∙ sym (ap (λ b. cond b (option_map d.holds (file_at d q)) None) not_one)
          ]
          ∙ sym (put ∙ ap (λ b. cond b (Some (d.holds number)) (cond (is_object q) (option_map d.holds (file_at d q)) None)) apart)
    ])
