mod Long
