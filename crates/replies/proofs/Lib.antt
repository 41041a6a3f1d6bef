mod FieldValues
